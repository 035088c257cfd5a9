-- The verdicts of a least gap are those of lines, or of `final`.
use Rattle.std.proofs.Common.{◌≡◌, ℕ, ◌+◌, ◌≤◌, List, length, Option, Some, None, IfSome, sym, ap, subst}
use Rattle.sel_box.specs.declared.packet.Direction.{Direction}
use Rattle.sel_box.specs.declared.packet.Direction.TheVariants.{Outbound, Inbound}
use Rattle.sel_box.specs.Point.{PointFields, view_of}
use Rattle.spd_line.specs.First.{first_place}
use Rattle.spd_line.specs.declared.judgement.Verdict.{Verdict}
use Rattle.spd_line.specs.declared.line.LineParts.{LineParts}
use Rattle.pair_gap.specs.declared.gap.Gap.{Gap}
use Rattle.pair_gap.specs.Gap.{IsLeastGap}
use Rattle.cmd_audit.specs.inner.Places.{HasPlaces}

-- What the law of the first line gives.
pub record PlaceLaws : Type 0 where
  pub low : (d : Direction) (x : PointFields) (lines : List LineParts) → 1 ≤ first_place d x lines
  pub high : (d : Direction) (x : PointFields) (lines : List LineParts) → first_place d x lines ≤ length lines + 1

pub HasPlaces-least : PlaceLaws → (a b : List LineParts) (found : Option Gap) → IfSome found (IsLeastGap a b) → IfSome found (HasPlaces a b)
HasPlaces-least laws a b None least = tt
HasPlaces-least laws a b (Some gap) least =
    let ours : gap.a.line ≡ first_place Outbound (view_of Outbound gap.packet) a = ap (λ (v : Verdict). v.line) least.ours in
    let theirs : gap.b.line ≡ first_place Inbound (view_of Inbound gap.packet) b = ap (λ (v : Verdict). v.line) least.theirs in
    record {
      first_a = subst (λ (n : ℕ). 1 ≤ n) (sym ours) (laws.low Outbound (view_of Outbound gap.packet) a);
      last_a = subst (λ (n : ℕ). n ≤ length a + 1) (sym ours) (laws.high Outbound (view_of Outbound gap.packet) a);
      first_b = subst (λ (n : ℕ). 1 ≤ n) (sym theirs) (laws.low Inbound (view_of Inbound gap.packet) b);
      last_b = subst (λ (n : ℕ). n ≤ length b + 1) (sym theirs) (laws.high Inbound (view_of Inbound gap.packet) b);
    }

-- What is printed of an answer: its line is one of the policy, payloads count its selectors, and its lines come in order.
use Rattle.std.proofs.Common.{◌≡◌, ℕ, ◌+◌, ◌<◌, ◌≤◌, ◌&&◌, ◌==◌, Bool, true, false, List, ◌++◌, length, Result, Ok, Err, subst, arith}
use Rattle.std.specs.Prelude.{IfOk, IfSome, OnOk, codes, slice_get}
use Rattle.std.proofs.lemmas.Bool.{and_parts, eqb-true}
use Rattle.sel_box.specs.declared.packet.Direction.{Direction}
use Rattle.sel_box.specs.declared.packet.Direction.TheVariants.{Outbound, Inbound}
use Rattle.sel_box.specs.Point.{PointFields, real_point}
use Rattle.spd_cut.specs.declared.entry.Entry.{Entry}
use Rattle.spd_line.specs.declared.line.LineParts.{LineParts}
use Rattle.spd_line.specs.First.{first_place, verdict_of}
use Rattle.ts_narrow.specs.declared.narrowed.Narrowed.{Narrowed}
use Rattle.ts_narrow.specs.declared.narrowed.Narrowed.TheVariants.{Pair, Unacceptable}
use Rattle.ts_narrow.specs.Allowed.{StandForBoth, allowed, is_protect, protects}
use Rattle.ts_narrow.specs.Answered.{CoversSome, HasSelectors, IsWithin}
use Rattle.ts_payload.specs.declared.selector.Ts.{Ts}
use Rattle.cmd_narrow.specs.Narrow.{digit_lines}
use Rattle.cmd_narrow.specs.inner.Printable.{CanPrint}

-- What the law of the first line gives.
pub record PlaceLaws : Type 0 where
  pub low : (d : Direction) (x : PointFields) (lines : List LineParts) → 1 ≤ first_place d x lines
  pub high : (d : Direction) (x : PointFields) (lines : List LineParts) → first_place d x lines ≤ length lines + 1

-- A line that allows a point is its first one.
allowed-first : (lines : List LineParts) (place : ℕ) (x : PointFields) → allowed lines place x ≡ true → first_place Outbound x lines ≡ place
allowed-first lines place x h =
    let both = (and_parts (real_point x) (protects lines place Outbound x && protects lines place Inbound x) h).1 in
    let out = (and_parts (protects lines place Outbound x) (protects lines place Inbound x) both).0 in
    eqb-true (first_place Outbound x lines) place
    (and_parts (first_place Outbound x lines == place) (is_protect (verdict_of Outbound x lines).judgement) out).0

CanPrint-right : PlaceLaws → (lines : List LineParts) (tsi tsr : List Ts) (answer : Narrowed) → IsWithin lines tsi tsr answer →
    CoversSome answer → HasSelectors tsi tsr answer → length tsi ≤ 127 → length tsr ≤ 127 → CanPrint (length lines) answer
CanPrint-right laws lines tsi tsr Unacceptable within some right few_tsi few_tsr = tt
CanPrint-right laws lines tsi tsr (Pair some_tsi some_tsr link additional) within some right few_tsi few_tsr =
    let first = allowed-first lines link some.point (within some.point some.real some.is_covered).1 in
    let short_tsi = right.1.0 in
    let short_tsr = right.1.1 in
    record {
      first = subst (λ (n : ℕ). 1 ≤ n) first (laws.low Outbound some.point lines);
      last = subst (λ (n : ℕ). n ≤ length lines + 1) first (laws.high Outbound some.point lines);
      tsi_right = right.0.0;
      tsr_right = right.0.1;
      few_tsi = omega arith;
      few_tsr = omega arith;
    }

-- The same of what a call answered.
pub CanPrint-answer : {E : Type 0} → PlaceLaws → (lines : List LineParts) (outbound inbound : List Entry) (tsi tsr : List Ts)
    (result : Result Narrowed E) → StandForBoth lines outbound inbound →
    IfOk result (λ answer. (lines : List LineParts) → StandForBoth lines outbound inbound → IsWithin lines tsi tsr answer) →
    IfOk result (λ answer. (lines : List LineParts) → StandForBoth lines outbound inbound → CoversSome answer) →
    IfOk result (HasSelectors tsi tsr) → length tsi ≤ 127 → length tsr ≤ 127 → IfOk result (CanPrint (length lines))
CanPrint-answer laws lines outbound inbound tsi tsr (Ok answer) both within some right few_tsi few_tsr =
    CanPrint-right laws lines tsi tsr answer (within lines both) (some lines both) right few_tsi few_tsr
CanPrint-answer laws lines outbound inbound tsi tsr (Err e) both within some right few_tsi few_tsr = tt

-- Behind the third line stands the notice alone.
pub OnOk-notice : {E : Type 0} (result : Result (Unit {0}) E) (name tsi tsr : List ℕ) (additional : Bool) (index : ℕ)
    (before now : List ℕ) → index < length (digit_lines name tsi tsr additional) → 3 ≤ index →
    OnOk result (now ≡ before ++ ((codes "additional " ++ codes "16386") ++ codes "\n")) →
    OnOk result (IfSome (slice_get (digit_lines name tsi tsr additional) index) (λ line. now ≡ before ++ line))
OnOk-notice (Err e) name tsi tsr additional index before now within behind holds = tt
OnOk-notice (Ok written) name tsi tsr true index before now within behind holds = let last : index ≡ 3 = omega arith in rw last holds
OnOk-notice (Ok written) name tsi tsr false index before now within behind holds = absurd (omega arith)

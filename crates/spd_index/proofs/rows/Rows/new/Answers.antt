use Rattle.std.proofs.Common.{ℕ, ◌+◌, ◌-◌, inl, inr, ◌∙◌, arith}
use Rattle.std.specs.List.{list_any}
use Rattle.std.proofs.lemmas.Bool.{cases_lt}
use Rattle.spd_line.specs.Selects.{address_has}
use Rattle.spd_index.specs.inner.Ends.{items_of}
use Rattle.spd_index.proofs.Stands.{StandsWhere-kept, StandsWhere-same}
use Rattle.spd_index.proofs.Verdicts.{line_at-is, slice_get-within}
use Rattle.spd_index.proofs.rows.Rows.new.Goals as goal

pub loop-place-preserved : goal.loop-place-preserved
loop-place-preserved g c =
    let kept = c.mark_items.ensures.kept in
    record {
      wide = rw kept.width c.loop-place.invariant.wide;
      held = λ k line below at. elim (cases_lt (k + 1) c.loop-place.place) [
        | inl before ↦
            StandsWhere-kept (λ (a : ℕ). list_any (address_has c.args.family a) (items_of c.args.side line)) c.loop-place.rows c.mark_items.new.self k kept
            (c.loop-place.invariant.held k line before at)
        | inr here ↦
            let is = line_at-is (g.L.Lines.lines c.args.lines.now) c.loop-place.place k line c.line.result.now (omega arith) at c.line.ensures in
            StandsWhere-same c.args.family c.args.side c.mark_items.new.self c.items_of-items.result.now line c.parts.result.now (c.loop-place.place - 1) k
            c.items_of-items.ensures (c.parts.ensures.value ∙ is) (omega arith) c.mark_items.ensures.marked
      ];
    }

pub returns : goal.returns
returns g c = record {
  wide = c.loop-place.invariant.wide;
  held = λ k line at.
      let low = slice_get-within (g.L.Lines.lines c.args.lines.now) k line at in
      c.loop-place.invariant.held k line (omega arith) at;
}

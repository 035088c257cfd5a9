use Rattle.std.proofs.Common.{◌≡◌, ◌+◌, ◌-◌, ◌∙◌, [], List, ap, drop, length, subst, sym, arith}
use Rattle.std.proofs.lemmas.Result.{err_from_is_err_and}
use Rattle.spd_line.specs.LineBoxes.{final_list, line_boxes}
use Rattle.spd_cut.specs.declared.entry.Entry.{Entry}
use Rattle.spd_cut.specs.inner.Cut.{whole_cut}
use Rattle.spd_cut.specs.Entries.{entries, linked, linked_boxes}
use Rattle.spd_cut.specs.StandsFor.{AreLinked, StandsFor}
use Rattle.spd_cut.proofs.Cuts.{all_cut, lines_end, lines_next, refused_of_all}
use Rattle.spd_cut.proofs.Standing.{entries-linked}
use Rattle.spd_cut.proofs.decorrelation.decorrelate.Goals as goal

pub loop-place-preserved : goal.loop-place-preserved
loop-place-preserved g c =
    let lines = g.L.Lines.lines c.args.lines.now in
    let place = c.loop-place.place in
    record {
      cut = (rw (c.as_slice.ensures, c.in_ok-boxes.ensures.boxes) at c.in_ok-add_line.ensures.cut)
          (linked_boxes c.args.direction (place + 1) (drop (place + 1 - 1) lines))
          ∙ ap (whole_cut c.args.limit c.loop-place.cutter) (lines_next c.args.direction place lines c.line.result.now c.line.ensures)
          ∙ c.loop-place.invariant.cut;
      few = c.in_ok-add_line.ensures.few;
    }

pub returns-in_err-add_line-clause-limit : goal.returns-in_err-add_line-clause-limit
returns-in_err-add_line-clause-limit g c =
    let lines = g.L.Lines.lines c.args.lines.now in
    let place = c.loop-place.place in
    let p = err_from_is_err_and c.from_residual-in_err-add_line.result c.from_residual-in_err-add_line.ensures.1 in
    rw (p.1, p.2)
    (refused_of_all c.args.limit c.loop-place.cutter c.args.direction lines
    (linked place (line_boxes c.args.direction c.line.result.now))
    (linked_boxes c.args.direction (place + 1) (drop (place + 1 - 1) lines)) _ c.in_err-add_line.field-0.0
    (lines_next c.args.direction place lines c.line.result.now c.line.ensures)
    c.loop-place.invariant.cut
    (rw (c.as_slice.ensures, c.in_ok-boxes.ensures.boxes) at c.in_err-add_line.ensures.fault))

pub returns-in_err-add_line-2-clause-limit : goal.returns-in_err-add_line-2-clause-limit
returns-in_err-add_line-2-clause-limit g c =
    let lines = g.L.Lines.lines c.args.lines.now in
    let behind : c.loop-place.place ≡ c.count-count.result + 1 = omega arith in
    let p = err_from_is_err_and c.from_residual-in_err-add_line-2.result c.from_residual-in_err-add_line-2.ensures.1 in
    rw (p.1, p.2)
    (refused_of_all c.args.limit c.loop-place.cutter c.args.direction lines (linked (c.count-count.result + 1) final_list) [] _ c.in_err-add_line-2.field-0.0
    (lines_end c.args.direction c.loop-place.place c.count-count.result lines c.count-count.ensures behind)
    c.loop-place.invariant.cut
    (rw c.final_boxes.ensures at c.in_err-add_line-2.ensures.fault))

pub returns : goal.returns
returns g c =
    let lines = g.L.Lines.lines c.args.lines.now in
    let behind : c.loop-place.place ≡ c.count-count.result + 1 = omega arith in
    let last = lines_end c.args.direction c.loop-place.place c.count-count.result lines c.count-count.ensures behind in
    let cut = all_cut c.args.limit c.add_line-2.new.self c.args.direction lines
    ((rw c.final_boxes.ensures at c.in_ok-add_line-2.ensures.cut) [] ∙ ap (whole_cut c.args.limit c.loop-place.cutter) last ∙ c.loop-place.invariant.cut) in
    let same : c.into_entries.result ≡ entries c.args.direction lines = c.into_entries.ensures ∙ cut.0 in
    record {
      entries = same;
      stands = subst (λ (es : List Entry). StandsFor es c.args.direction lines) (sym same) (c.entries_stand_for.ensures c.args.direction lines);
      within = cut.1;
      limit = tt;
      few = rw c.into_entries.ensures c.in_ok-add_line-2.ensures.few;
      links = subst (AreLinked (length lines)) (sym same) (entries-linked c.args.direction lines);
    }

use Rattle.std.proofs.Common.{◌∙◌, sym}
use Rattle.std.proofs.lemmas.Result.{err_from_is_err_and}
use Rattle.sel_region.proofs.CutLists.{cut_all-drop}
use Rattle.spd_cut.proofs.Loops.{passes_next}
use Rattle.spd_cut.proofs.Passed.{IsLineFault-more, none_passes-over_all, passed_over_all, passes-behind, within-cut_each}
use Rattle.spd_cut.proofs.cut.cut_by.Goals as goal

pub returns-then-not-may_meet-clause-cut : goal.returns-then-not-may_meet-clause-cut
returns-then-not-may_meet-clause-cut g c =
    sym (passed_over_all g.met.R.Region.laws c.args.region.now c.args.pieces.now c.args.block.now c.requires.inside c.if-not-may_meet.ensures)

pub returns-then-not-may_meet-clause-within : goal.returns-then-not-may_meet-clause-within
returns-then-not-may_meet-clause-within g c =
    none_passes-over_all g.met.R.Region.laws c.args.room.limit c.args.room.done c.args.region.now c.args.pieces.now c.args.block.now
    c.requires.inside c.if-not-may_meet.ensures c.requires.room

pub returns-in_err-take_out-clause-limit : goal.returns-in_err-take_out-clause-limit
returns-in_err-take_out-clause-limit g c =
    let items = c.as_slice-earlier-items.result.now in
    let p = err_from_is_err_and c.from_residual.result c.from_residual.ensures.1 in
    rw (p.1, p.2, ← c.as_slice-earlier-items.ensures)
    (IsLineFault-more _ _ c.args.room.line c.in_err-take_out.field-0.0
    (λ some. sym c.loop-earlier.invariant.counts
    ∙ passes-behind g.R.Region.minus c.args.room.limit c.args.room.done c.loop-earlier.pieces items c.loop-earlier.earlier-index
    c.earlier-item.result c.loop-earlier-test.true c.earlier-item.is some)
    c.in_err-take_out.ensures.limit)

pub loop-earlier-preserved : goal.loop-earlier-preserved
loop-earlier-preserved g c =
    let minus = g.R.Region.minus in
    let pieces = c.loop-earlier.pieces in
    let items = c.as_slice-earlier-items.result.now in
    let earlier = c.earlier-item.result in
    let before = c.loop-earlier.invariant in
    rw c.in_ok-take_out.ensures.cut record {
      cut = cut_all-drop minus pieces items c.loop-earlier.earlier-index earlier c.loop-earlier-test.true c.earlier-item.is ∙ before.cut;
      counts = passes_next minus c.args.room.limit c.args.room.done pieces items c.loop-earlier.earlier-index earlier
          c.loop-earlier-test.true c.earlier-item.is before.room
          ∙ before.counts;
      inside = within-cut_each g.met.R.Region.laws c.args.region.now pieces earlier before.inside;
      room = rw c.in_ok-take_out.ensures.cut at c.in_ok-take_out.ensures.room;
    }

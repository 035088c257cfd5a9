use Rattle.std.proofs.Common.{◌∙◌, ap}
use Rattle.spd_line.specs.LineBoxes.{line_boxes}
use Rattle.cert_rows.proofs.Gathers.{gathered-marks, gathered-regions}
use Rattle.cert_rows.proofs.boxes.Boxes.gather.Goals as goal

pub loop-place-preserved : goal.loop-place-preserved
loop-place-preserved g c =
    let lines = g.L.Lines.lines c.args.lines.now in
    let row_is = c.as_slice.ensures ∙ c.in_ok-row.ensures.boxes ∙ ap (λ d. line_boxes d c.line.result.now) c.direction.ensures in
    record {
      regions = gathered-regions c.args.gateway c.loop-place.place lines c.line.result.now c.loop-place.all.regions
          c.add_row.new.self.regions c.as_slice.result.now c.line.ensures row_is c.in_ok-add_row.ensures.regions
          ∙ c.loop-place.invariant.regions;
      marks = gathered-marks c.args.gateway c.loop-place.place lines c.line.result.now c.loop-place.all.marks.items
          c.add_row.new.self.marks.items c.as_slice.result.now c.line.ensures row_is c.in_ok-add_row.ensures.marks
          ∙ c.loop-place.invariant.marks;
    }

use Rattle.std.proofs.Common.{◌≡◌, arith}
use Rattle.std.proofs.lemmas.Grind.{common_steps}
use Rattle.spd_line.specs.LineBoxes.{line_boxes}
use Rattle.spd_line.proofs.Sound.{few_boxes}
use Rattle.spd_line.proofs.line_boxes.boxes.Goals as goal

pub returns-clause-few : goal.returns-clause-few
returns-clause-few c =
    let same : c.put_boxes-2.new.list ≡ line_boxes c.args.direction c.args.line.now = grind (arith, common_steps) in
    rw same (few_boxes _ _ (rw c.parts-parts.ensures.value at c.parts-parts.ensures.line))

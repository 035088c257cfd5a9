use Rattle.std.proofs.Common.{sym}
use Rattle.std.proofs.lemmas.List.{take_all}
use Rattle.std.proofs.lemmas.List.Elements.{All-same}
use Rattle.spd_line.specs.declared.line_boxes.LineBox.{LineBox}
use Rattle.spd_cache.specs.inner.Hulls.{HaveAll}
use Rattle.spd_cache.proofs.Widened.{hulls_more}
use Rattle.spd_cache.proofs.hulls.Hulls.of.Goals as goal

pub loop-part-preserved : goal.loop-part-preserved
loop-part-preserved c =
    hulls_more c.loop-part.hulls c.widen.new.self c.args.boxes.now c.loop-part.part-index c.part-item.result c.loop-part-test.true c.part-item.is
    c.widen.ensures.still c.widen.ensures.here c.loop-part.invariant

pub returns : goal.returns
returns c =
    All-same (λ (box : LineBox). HaveAll c.loop-part.hulls box.region) c.args.boxes.now _
    (sym (take_all c.loop-part.part-index c.args.boxes.now c.loop-part-test.false)) c.loop-part.invariant

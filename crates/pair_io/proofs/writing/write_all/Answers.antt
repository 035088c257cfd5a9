use Rattle.std.proofs.Common.{take, drop, sym, ◌∙◌}
use Rattle.std.proofs.lemmas.List.{take_rest, take-append-drop}
use Rattle.pair_io.proofs.Gains.{GainsSoFar-more}
use Rattle.pair_io.proofs.writing.write_all.Goals as goal

pub loop-rest-preserved : goal.loop-rest-preserved
loop-rest-preserved g c =
    let count = c.in_ok-count.count in
    let rest = c.loop-rest.rest.now in
    let splits = sym (take-append-drop count rest) in
    let written = c.in_ok-count.ensures.written in
    record {
      sent = rw take_rest (GainsSoFar-more (take count rest) (drop count rest) splits c.loop-rest.invariant.sent written);
      faults = c.in_ok-count.ensures.no_fault ∙ c.loop-rest.invariant.faults;
    }

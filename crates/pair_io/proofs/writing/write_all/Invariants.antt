use Rattle.std.proofs.Common.{◌≡◌, length}
use Rattle.pair_io.proofs.Gains.{GainsSoFar}
use Rattle.pair_io.proofs.writing.write_all.Given as goal

abbrev pub invariant-loop-rest : goal.invariant-loop-rest
invariant-loop-rest g l =
    record {
      sent : GainsSoFar (g.O.Sink.told l.fn.sink) (g.O.Sink.told l.sink) l.rest l.bytes;
      faults : g.O.Sink.faults l.sink ≡ g.O.Sink.faults l.fn.sink;
    }

abbrev pub decreases-loop-rest : goal.decreases-loop-rest
decreases-loop-rest g l = length l.rest

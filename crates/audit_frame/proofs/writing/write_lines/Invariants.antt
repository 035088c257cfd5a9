use Rattle.std.proofs.Common.{◌≡◌, drop}
use Rattle.pair_io.proofs.Gains.{GainsSoFar}
use Rattle.audit_frame.specs.Answer.{text_of}
use Rattle.audit_frame.proofs.writing.write_lines.Given as goal

abbrev pub invariant-loop-index : goal.invariant-loop-index
invariant-loop-index g l = record {
  written : GainsSoFar (g.O.Sink.told l.initial.out) (g.O.Sink.told l.out)
      (text_of (drop l.index (g.L.PrintedLines.lines l.lines))) (text_of (g.L.PrintedLines.lines l.lines));
  faults : g.O.Sink.faults l.out ≡ g.O.Sink.faults l.initial.out;
}

use Rattle.std.proofs.Common.{◌<◌, length, ◌∙◌, arith}
use Rattle.std.proofs.lemmas.Result.{err_from_is_err_and}
use Rattle.pair_io.specs.Gains.{Gains, GainsPrefix}
use Rattle.pair_io.proofs.Gains.{GainsSoFar-more, GainsSoFar-prefix}
use Rattle.audit_frame.proofs.Lines.{at_index, text_from}
use Rattle.audit_frame.proofs.writing.write_lines.Goals as goal

pub returns-in_err-write_at-clause-prefix : goal.returns-in_err-write_at-clause-prefix
returns-in_err-write_at-clause-prefix g c =
    let p = err_from_is_err_and c.from_residual.result c.from_residual.ensures.1 in
    let lines = g.L.PrintedLines.lines c.args.lines.now in
    let within : c.loop-index.index < length lines = omega arith in
    let prefix = at_index (GainsPrefix (g.O.Sink.told c.loop-index.out) (g.O.Sink.told c.write_at.new.out)) lines c.loop-index.index within
    c.in_err-write_at.ensures.prefix in
    rw p.1 (GainsSoFar-prefix _ _ (text_from lines c.loop-index.index within) c.loop-index.invariant.written prefix)

pub loop-index-preserved : goal.loop-index-preserved
loop-index-preserved g c =
    let lines = g.L.PrintedLines.lines c.args.lines.now in
    let within : c.loop-index.index < length lines = omega arith in
    let gained = at_index (Gains (g.O.Sink.told c.loop-index.out) (g.O.Sink.told c.write_at.new.out)) lines c.loop-index.index within
    c.in_ok-write_at.ensures.written in
    record {
      written = GainsSoFar-more _ _ (text_from lines c.loop-index.index within) c.loop-index.invariant.written gained;
      faults = c.in_ok-write_at.ensures.no_fault ∙ c.loop-index.invariant.faults;
    }

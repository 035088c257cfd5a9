use Rattle.std.proofs.Common.{ℕ, List, refl, subst}
use Rattle.std.proofs.lemmas.Result.{err_from_is_err_and}
use Rattle.pair_io.specs.Gains.{Gains, GainsPrefix}
use Rattle.audit_frame.specs.Answer.{text_of}
use Rattle.cmd_narrow.proofs.answering.write_pair.Goals as goal

pub returns-in_err-write_lines-clause-writes : goal.returns-in_err-write_lines-clause-writes
returns-in_err-write_lines-clause-writes g c =
    let p = err_from_is_err_and c.from_residual-in_err-write_lines.result c.from_residual-in_err-write_lines.ensures.1 in
    rw p.1
    (subst (λ (lines : List (List ℕ)). GainsPrefix (g.O.Sink.told c.args.out.now) (g.O.Sink.told c.write_lines.new.out) (text_of lines))
    c.in_ok-pair.ensures c.in_err-write_lines.ensures.prefix)

pub returns-clause-writes : goal.returns-clause-writes
returns-clause-writes g c = record {
  ended_is = refl;
  all_lines =
      subst (λ (lines : List (List ℕ)). Gains (g.O.Sink.told c.args.out.now) (g.O.Sink.told c.write_lines.new.out) (text_of lines))
      c.in_ok-pair.ensures c.in_ok-write_lines.ensures.written;
}

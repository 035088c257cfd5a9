use Rattle.std.proofs.Common.{refl}
use Rattle.std.proofs.lemmas.Result.{err_from_is_err_and}
use Rattle.cert_make.specs.Trees.{made_nodes}
use Rattle.cmd_audit.proofs.Certificates.{agree_stopped, all_written, nodes_stopped}
use Rattle.cmd_audit.proofs.writing.write_agreement.Goals as goal

pub returns-in_err-write_line-clause-writes : goal.returns-in_err-write_line-clause-writes
returns-in_err-write_line-clause-writes g c =
    let p = err_from_is_err_and c.from_residual.result c.from_residual.ensures.1 in
    rw p.1
    (agree_stopped (made_nodes c.args.a.now c.args.b.now) (g.O.Sink.told c.args.out.now) (g.O.Sink.told c.write_line.new.out)
    c.in_err-write_line.ensures.prefix)

pub returns-in_err-write_nodes-clause-writes : goal.returns-in_err-write_nodes-clause-writes
returns-in_err-write_nodes-clause-writes g c =
    let p = err_from_is_err_and c.from_residual-in_err-write_nodes.result c.from_residual-in_err-write_nodes.ensures.1 in
    rw p.1
    (nodes_stopped (made_nodes c.args.a.now c.args.b.now) (g.O.Sink.told c.args.out.now) (g.O.Sink.told c.write_line.new.out)
    (g.O.Sink.told c.write_nodes.new.out) c.in_ok-write_line.ensures.written c.in_err-write_nodes.ensures.prefix)

pub returns-clause-writes : goal.returns-clause-writes
returns-clause-writes g c = record {
  ended_is = refl;
  all_lines =
      all_written (made_nodes c.args.a.now c.args.b.now) (g.O.Sink.told c.args.out.now) (g.O.Sink.told c.write_line.new.out)
      (g.O.Sink.told c.write_nodes.new.out) c.in_ok-write_line.ensures.written c.in_ok-write_nodes.ensures.written;
}

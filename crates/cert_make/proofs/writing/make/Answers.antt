use Rattle.std.proofs.Common.{ℕ, List, subst}
use Rattle.std.specs.Prelude.{OnErr, OnOk}
use Rattle.pair_io.specs.Gains.{Gains, GainsPrefix}
use Rattle.cert_make.proofs.Steps.{made_text}
use Rattle.cert_make.proofs.writing.make.Goals as goal

pub returns-clause-written : goal.returns-clause-written
returns-clause-written g c =
    subst (λ (text : List ℕ). OnOk c.write_trees.result (Gains (g.O.Sink.told c.args.out.now) (g.O.Sink.told c.write_trees.new.out) text))
    (made_text (g.L.Lines.lines c.args.a.now) (g.M.Lines.lines c.args.b.now) c.in_ok-ours.ours c.in_ok-theirs.theirs
    (record { ours_are = c.in_ok-ours.ensures; theirs_are = c.in_ok-theirs.ensures }))
    c.write_trees.ensures.written

pub returns-clause-prefix : goal.returns-clause-prefix
returns-clause-prefix g c =
    subst (λ (text : List ℕ). OnErr c.write_trees.result (GainsPrefix (g.O.Sink.told c.args.out.now) (g.O.Sink.told c.write_trees.new.out) text))
    (made_text (g.L.Lines.lines c.args.a.now) (g.M.Lines.lines c.args.b.now) c.in_ok-ours.ours c.in_ok-theirs.theirs
    (record { ours_are = c.in_ok-ours.ensures; theirs_are = c.in_ok-theirs.ensures }))
    c.write_trees.ensures.prefix

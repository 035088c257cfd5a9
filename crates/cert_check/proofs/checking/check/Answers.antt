use Rattle.std.proofs.Common.{◌≡◌, ℕ, Result, Ok, subst}
use Rattle.std.specs.Prelude.{IfErr, IfOk}
use Rattle.sel_text.specs.Lines.{lines_of}
use Rattle.spd_line.specs.Agree.{Agree}
use Rattle.cert_check.specs.declared.answer.Checked.{Checked}
use Rattle.cert_check.specs.Answer.{IsCheckFault, check_answer}
use Rattle.cert_check.proofs.Sides.{accepted_shows, check-by_sides, check-other}
use Rattle.cert_check.proofs.checking.check.Goals as goal

pub returns-in_default-clause-err : goal.returns-in_default-clause-err
returns-in_default-clause-err g c =
    check-other (g.L.Lines.lines c.args.a.now) (g.M.Lines.lines c.args.b.now) c.args.text.now c.in_default.ensures

pub returns-clause-ok : goal.returns-clause-ok
returns-clause-ok g c =
    let a = g.L.Lines.lines c.args.a.now in
    let b = g.M.Lines.lines c.args.b.now in
    let same = check-by_sides a b c.in_ok-ours.ours c.in_ok-theirs.theirs c.in_ok-ours.ensures c.in_ok-theirs.ensures c.args.text.now
    (lines_of c.in-Some.nodes.now) c.in-Some.ensures in
    subst (λ (answer : Result Checked ℕ). IfOk c.check_nodes.result (λ found. answer ≡ Ok found)) same c.check_nodes.ensures.ok

pub returns-clause-err : goal.returns-clause-err
returns-clause-err g c =
    let a = g.L.Lines.lines c.args.a.now in
    let b = g.M.Lines.lines c.args.b.now in
    let same = check-by_sides a b c.in_ok-ours.ours c.in_ok-theirs.theirs c.in_ok-ours.ensures c.in_ok-theirs.ensures c.args.text.now
    (lines_of c.in-Some.nodes.now) c.in-Some.ensures in
    subst (λ (answer : Result Checked ℕ). IfErr c.check_nodes.result (IsCheckFault answer)) same c.check_nodes.ensures.err

pub returns-clause-agree : goal.returns-clause-agree
returns-clause-agree g c =
    let a = g.L.Lines.lines c.args.a.now in
    let b = g.M.Lines.lines c.args.b.now in
    let same = check-by_sides a b c.in_ok-ours.ours c.in_ok-theirs.theirs c.in_ok-ours.ensures c.in_ok-theirs.ensures c.args.text.now
    (lines_of c.in-Some.nodes.now) c.in-Some.ensures in
    accepted_shows (Agree a b) c.check_nodes.result (check_answer a b c.args.text.now)
    (subst (λ (answer : Result Checked ℕ). IfOk c.check_nodes.result (λ found. answer ≡ Ok found)) same c.check_nodes.ensures.ok)
    (λ accepted. let certificate = (c.accepted_is_valid.ensures a b c.args.text.now).0 accepted in
    c.valid_agrees.ensures a b certificate.nodes certificate.each)

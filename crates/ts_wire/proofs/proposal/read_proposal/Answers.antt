use Rattle.std.proofs.lemmas.Result.{err_from_is_err_and}
use Rattle.ts_wire.proofs.Given.{proposal_of-both, proposal_of-first, proposal_of-lines, proposal_of-second}
use Rattle.ts_wire.proofs.proposal.read_proposal.Goals as goal

pub returns-in_default-clause-fault : goal.returns-in_default-clause-fault
returns-in_default-clause-fault c = λ _. proposal_of-lines c.args.bytes.now c.in_default.ensures

pub returns-in_err-tsi-clause-fault : goal.returns-in_err-tsi-clause-fault
returns-in_err-tsi-clause-fault c =
    let p = err_from_is_err_and c.from_residual.result c.from_residual.ensures.1 in
    rw (p.1, p.2) (λ other. proposal_of-first c.args.bytes.now c.in-Some.tsi.now c.in-Some.tsr.now c.in_err-tsi.field-0.0 c.in-Some.ensures
    (c.in_err-tsi.ensures.fault other))

pub returns-in_err-tsr-clause-fault : goal.returns-in_err-tsr-clause-fault
returns-in_err-tsr-clause-fault c =
    let p = err_from_is_err_and c.from_residual-in_err-tsr.result c.from_residual-in_err-tsr.ensures.1 in
    rw (p.1, p.2) (λ other. proposal_of-second c.args.bytes.now c.in-Some.tsi.now c.in-Some.tsr.now c.in_ok-tsi.tsi c.in_err-tsr.field-0.0 c.in-Some.ensures
    c.in_ok-tsi.ensures.list (c.in_err-tsr.ensures.fault other))

pub returns-clause-proposal : goal.returns-clause-proposal
returns-clause-proposal c =
    proposal_of-both c.args.bytes.now c.in-Some.tsi.now c.in-Some.tsr.now c.in_ok-tsi.tsi c.in_ok-tsr.tsr c.in-Some.ensures
    c.in_ok-tsi.ensures.list c.in_ok-tsr.ensures.list

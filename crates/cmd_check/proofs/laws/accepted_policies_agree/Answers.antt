use Rattle.cmd_check.proofs.Agreed.{IsAgreed-answer}
use Rattle.cmd_check.proofs.laws.accepted_policies_agree.Goals as goal

pub returns : goal.returns
returns c =
    IsAgreed-answer (λ a b text accepted.
    let certificate = (c.accepted_is_valid.ensures a b text).0 accepted in
    c.valid_agrees.ensures a b certificate.nodes certificate.each)

-- A run that ended as accepted was given two policies that agree.
use Rattle.std.proofs.Common.{◌≡◌, ℕ, List, Option, Some, Result, Ok, Err, refl, subst}
use Rattle.pair_io.specs.Gains.{Gains}
use Rattle.spd_line.specs.declared.line.LineParts.{LineParts}
use Rattle.spd_line.specs.Agree.{Agree}
use Rattle.cert_check.specs.declared.answer.Checked.{Checked}
use Rattle.cert_check.specs.Answer as checker
use Rattle.audit_frame.specs.declared.refusal.Refusal.{Refusal}
use Rattle.audit_frame.specs.Answer.{text_of}
use Rattle.audit_frame.specs.Ends.{Ends}
use Rattle.audit_frame.proofs.Done.{Ends-content, Ends-lines}
use Rattle.cmd_check.specs.declared.command.Check.{Check}
use Rattle.cmd_check.specs.declared.command.CheckEnd.{CheckEnd}
use Rattle.cmd_check.specs.Check.{by_certificate, by_found, by_lines_a, by_lines_b, check_answer}
use Rattle.cmd_check.specs.Headline.{IsAgreed}

-- An answer that ends as accepted is one to an accepted certificate.
was_accepted : (found : Result Checked ℕ) → ◌≡◌ {A = Result CheckEnd Refusal} (Ok CheckEnd.Accepted) (by_found found).ended → found ≡ Ok Checked.Accepted
was_accepted (Err line) same = absurd cc
was_accepted (Ok Checked.Accepted) same = refl
was_accepted (Ok (Checked.Rejected node)) same = absurd cc

pub IsAgreed-answer : ((a b : List LineParts) (text : List ℕ) → checker.check_answer a b text ≡ Ok Checked.Accepted → Agree a b)
    → (told : List ℕ → Option (List ℕ)) (command : Check) (content_a content_b certificate : List ℕ) (before now : Option (List ℕ))
    → told command.policy_a.name ≡ Some content_a → told command.policy_b.name ≡ Some content_b → told command.certificate.name ≡ Some certificate
    → Ends (check_answer told command) before now (Ok CheckEnd.Accepted) → IsAgreed content_a content_b before now
IsAgreed-answer agrees told command content_a content_b certificate before now a_told b_told certificate_told ends =
    let a = Ends-lines told command.policy_a content_a (by_lines_a told command) before now CheckEnd.Accepted a_told ends in
    let b = Ends-lines told command.policy_b content_b (by_lines_b told command a.lines) before now CheckEnd.Accepted b_told a.ends in
    let done = Ends-content told command.certificate command.most certificate (by_certificate a.lines b.lines) before now CheckEnd.Accepted certificate_told
    b.ends in
    let accepted = was_accepted (checker.check_answer a.lines b.lines certificate) done.ended_is in
    record {
      lines_a = a.lines;
      lines_b = b.lines;
      policy_a = a.policy;
      policy_b = b.policy;
      agree = agrees a.lines b.lines certificate accepted;
      written = subst (λ (found : Result Checked ℕ). Gains before now (text_of (by_found found).lines)) accepted done.all_lines;
    }

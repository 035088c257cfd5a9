-- What `audit` writes, said of packets, without a cut or a loop.
use Rattle.std.specs.Prelude.{◌≡◌, ℕ, List, Option, Ok}
use Rattle.pair_io.specs.Gains.{Gains}
use Rattle.cert_check.specs.declared.answer.Checked.{Checked}
use Rattle.cert_check.specs.Answer.{check_answer}
use Rattle.pair_gap.specs.declared.gap.Gap.{Gap}
use Rattle.pair_gap.specs.Gap.{IsLeastGap}
use Rattle.spd_file.specs.Policy.{policy_meaning}
use Rattle.spd_line.specs.Agree.{Agree}
use Rattle.spd_line.specs.declared.line.LineParts.{LineParts}
use Rattle.audit_frame.specs.Answer.{text_of}
use Rattle.cmd_audit.specs.Audit.{gap_lines, told_by}
use Rattle.cmd_audit.specs.declared.command.AuditEnd.{AuditEnd}

-- The policies of the two contents agree, and the text gained a certificate of it that is accepted.
pub record IsAgreement (policy_a policy_b : List ℕ) (before now : Option (List ℕ)) : Type 0 where
  pub a : List LineParts
  pub b : List LineParts
  pub a_is : policy_meaning policy_a ≡ Ok a
  pub b_is : policy_meaning policy_b ≡ Ok b
  pub agree : Agree a b
  pub certificate : List ℕ
  pub accepted : check_answer a b certificate ≡ Ok Checked.Accepted
  pub written : Gains before now certificate

-- The text gained the least packet that the policies of the two contents judge differently, with the verdict of the first
-- line that selects it in each.
pub record IsDifference (policy_a policy_b : List ℕ) (before now : Option (List ℕ)) : Type 0 where
  pub a : List LineParts
  pub b : List LineParts
  pub a_is : policy_meaning policy_a ≡ Ok a
  pub b_is : policy_meaning policy_b ≡ Ok b
  pub gap : Gap
  pub least : IsLeastGap a b gap
  pub written : Gains before now (text_of (gap_lines gap.packet (told_by a gap.a) (told_by b gap.b)))

-- What is so at an end of the command's own.
abbrev pub IsAudited : List ℕ → List ℕ → Option (List ℕ) → Option (List ℕ) → AuditEnd → Type 0
IsAudited policy_a policy_b before now AuditEnd.Agree = IsAgreement policy_a policy_b before now
IsAudited policy_a policy_b before now AuditEnd.Differ = IsDifference policy_a policy_b before now

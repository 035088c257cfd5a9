-- What `check MOST POLICY_A POLICY_B CERT` answers.
use Rattle.std.specs.Str.{bytes_eq}
use Rattle.std.specs.Prelude.{ℕ, ◌++◌, codes, decimal, List, [], ◌∷◌, Option, Some, None, Result, Ok, Err, if◌then◌else◌}
use Rattle.spd_line.specs.declared.line.LineParts.{LineParts}
use Rattle.cert_check.specs.declared.answer.Checked.{Checked}
use Rattle.cert_check.specs.Answer as checker
use Rattle.audit_frame.specs.Answer.{Answer, ending, with_file, with_line, with_policy}
use Rattle.audit_frame.specs.Causes.{InputFile}
use Rattle.audit_frame.specs.Loading.{plain_file, policy_file}
use Rattle.audit_frame.specs.Words.{count_in, file_in, FileWord}
use Rattle.cmd_check.specs.declared.command.Check.{Check}
use Rattle.cmd_check.specs.declared.command.CheckEnd.{CheckEnd}

-- The most bytes that a certificate may be allowed.
abbrev pub most_certificate : ℕ
most_certificate = 1073741824

-- The command of a number of bytes, two policies and a certificate, where all are there.
abbrev pub command_of : Option ℕ → Option FileWord → Option FileWord → Option FileWord → Option Check
command_of (Some most) (Some policy_a) (Some policy_b) (Some certificate) =
    Some (record { most = most; policy_a = policy_a; policy_b = policy_b; certificate = certificate })
command_of _ _ _ _ = None

-- The command of some words: `check`, a number of bytes, and the names of two policies and a certificate, none empty.
abbrev pub check_in : List (List ℕ) → Option Check
check_in (command ∷ most ∷ policy_a ∷ policy_b ∷ certificate ∷ []) =
    if bytes_eq command (codes "check")
    then command_of (count_in most_certificate most) (file_in 3 policy_a) (file_in 4 policy_b) (file_in 5 certificate)
    else None
check_in _ = None

-- The files that it reads.
abbrev pub check_files : Check → List InputFile
check_files command =
    policy_file command.policy_a ∷ policy_file command.policy_b ∷ plain_file command.certificate command.most ∷ []

-- What is written of a certificate, and how the command ends by it.
abbrev pub found_text : Checked → List ℕ
found_text Checked.Accepted = codes "accepted"
found_text (Checked.Rejected node) = codes "rejected " ++ decimal node

abbrev pub end_of : Checked → CheckEnd
end_of Checked.Accepted = CheckEnd.Accepted
end_of (Checked.Rejected node) = CheckEnd.Rejected node

-- The answer to what was found; of a text that is no certificate nothing is written.
abbrev pub by_found : Result Checked ℕ → Answer CheckEnd
by_found (Err line) = ending (CheckEnd.CertFault line)
by_found (Ok found) = with_line (found_text found ++ codes "\n") (ending (end_of found))

-- The answer by the lines of both policies and the certificate.
abbrev pub certificate_answer : List LineParts → List LineParts → List ℕ → Answer CheckEnd
certificate_answer a b certificate = by_found (checker.check_answer a b certificate)

-- The same as an answer that rests on no further file, by the lines of B's policy, and by those of A's.
abbrev pub by_certificate : List LineParts → List LineParts → List ℕ → Option (Answer CheckEnd)
by_certificate a b certificate = Some (certificate_answer a b certificate)

abbrev pub by_lines_b : (List ℕ → Option (List ℕ)) → Check → List LineParts → List LineParts → Option (Answer CheckEnd)
by_lines_b told command a b = with_file told command.certificate command.most (by_certificate a b)

abbrev pub by_lines_a : (List ℕ → Option (List ℕ)) → Check → List LineParts → Option (Answer CheckEnd)
by_lines_a told command a = with_policy told command.policy_b (by_lines_b told command a)

-- The answer of the command; a file that isn't told leaves it open.
abbrev pub check_answer : (List ℕ → Option (List ℕ)) → Check → Option (Answer CheckEnd)
check_answer told command = with_policy told command.policy_a (by_lines_a told command)

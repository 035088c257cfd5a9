-- What `audit LIMIT POLICY_A POLICY_B` answers.
use Rattle.std.specs.Str.{bytes_eq}
use Rattle.std.specs.Prelude.{ℕ, ◌++◌, codes, List, [], ◌∷◌, Option, Some, None, Ok, if◌then◌else◌}
use Rattle.sel_box.specs.declared.packet.Direction.TheVariants.{Outbound, Inbound}
use Rattle.sel_box.specs.Packet.{PacketFields}
use Rattle.spd_cut.specs.Entries.{entries}
use Rattle.spd_line.specs.declared.judgement.Answer.{Answer as VerdictAnswer}
use Rattle.spd_line.specs.declared.judgement.Verdict.{Verdict}
use Rattle.spd_line.specs.declared.line.LineParts.{LineParts}
use Rattle.spd_line.specs.First.{name_at}
use Rattle.spd_text.specs.JudgementText.{verdict_text}
use Rattle.spd_text.specs.PacketText.{packet_text}
use Rattle.cert_make.specs.Text.{certificate_lines}
use Rattle.cert_make.specs.Trees.{made_nodes}
use Rattle.pair_gap.specs.declared.gap.Gap.{Gap}
use Rattle.pair_gap.specs.LeastGap.{least_gap_of}
use Rattle.audit_frame.specs.Answer.{Answer, with_limit, with_policy}
use Rattle.audit_frame.specs.Causes.{InputFile}
use Rattle.audit_frame.specs.Further.{with_limit_before}
use Rattle.audit_frame.specs.Loading.{policy_file}
use Rattle.audit_frame.specs.Words.{count_in, file_in, FileWord, most_limit}
use Rattle.cmd_audit.specs.declared.command.Audit.{Audit}
use Rattle.cmd_audit.specs.declared.command.AuditEnd.{AuditEnd}

-- The command of a limit and two policies, where all are there.
abbrev pub command_of : Option ℕ → Option FileWord → Option FileWord → Option Audit
command_of (Some limit) (Some policy_a) (Some policy_b) = Some (record { limit = limit; policy_a = policy_a; policy_b = policy_b })
command_of _ _ _ = None

-- The command of some words: `audit`, a limit, and the names of two policies, neither empty.
abbrev pub audit_in : List (List ℕ) → Option Audit
audit_in (command ∷ limit ∷ policy_a ∷ policy_b ∷ []) =
    if bytes_eq command (codes "audit") then command_of (count_in most_limit limit) (file_in 3 policy_a) (file_in 4 policy_b) else None
audit_in _ = None

-- The files that it reads.
abbrev pub audit_files : Audit → List InputFile
audit_files command = policy_file command.policy_a ∷ policy_file command.policy_b ∷ []

-- A verdict with the name of its line.
abbrev pub told_by : List LineParts → Verdict → VerdictAnswer
told_by lines verdict = record { name = name_at lines verdict.line; judgement = verdict.judgement }

-- The lines of a packet that is judged differently, with the verdicts of A and of B.
abbrev pub gap_lines : PacketFields → VerdictAnswer → VerdictAnswer → List (List ℕ)
gap_lines packet a b =
    (codes "differ" ++ codes "\n")
    ∷ ((codes "packet " ++ packet_text packet) ++ codes "\n")
    ∷ ((codes "a " ++ verdict_text a) ++ codes "\n")
    ∷ ((codes "b " ++ verdict_text b) ++ codes "\n")
    ∷ []

-- That both agree: the certificate of it that is made of them.
abbrev pub agreement : List LineParts → List LineParts → Answer AuditEnd
agreement a b = record { ended = Ok AuditEnd.Agree; lines = certificate_lines (made_nodes a b) }

-- That they differ, and where.
abbrev pub gap_answer : List LineParts → List LineParts → Gap → Answer AuditEnd
gap_answer a b gap = record { ended = Ok AuditEnd.Differ; lines = gap_lines gap.packet (told_by a gap.a) (told_by b gap.b) }

-- They agree where there is no gap.
abbrev pub by_gap : List LineParts → List LineParts → Option Gap → Answer AuditEnd
by_gap a b None = agreement a b
by_gap a b (Some gap) = gap_answer a b gap

-- The answer by the lines of both policies: the least gap of A's outbound and B's inbound entries.
abbrev pub pair_answer : List LineParts → List LineParts → Answer AuditEnd
pair_answer a b = by_gap a b (least_gap_of (entries Outbound a) (entries Inbound b))

-- The answer by the lines of both, where B's inbound entries stay within the limit.
abbrev pub by_second : Audit → List LineParts → List LineParts → Option (Answer AuditEnd)
by_second command a b = Some (with_limit command.policy_b.word command.limit Inbound b (pair_answer a b))

-- The answer by the lines of A: its outbound limit comes before the file of B.
abbrev pub by_first : (List ℕ → Option (List ℕ)) → Audit → List LineParts → Option (Answer AuditEnd)
by_first told command a =
    with_limit_before command.policy_a.word command.limit Outbound a (with_policy told command.policy_b (by_second command a))

-- The answer of the command; a file that isn't told leaves it open.
abbrev pub audit_answer : (List ℕ → Option (List ℕ)) → Audit → Option (Answer AuditEnd)
audit_answer told command = with_policy told command.policy_a (by_first told command)

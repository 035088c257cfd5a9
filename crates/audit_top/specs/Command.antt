-- The commands, each with what its own crate says of it.
use Rattle.std.specs.Prelude.{◌≡◌, ℕ, List, Option, Some, None, option_map, IfSome, IsSomeAnd}
use Rattle.audit_frame.specs.Answer.{Answer, map_answer}
use Rattle.audit_frame.specs.Causes.{InputFile}
use Rattle.cmd_audit.specs.Audit.{audit_answer, audit_files, audit_in}
use Rattle.cmd_audit.specs.Headline.{IsAgreement, IsDifference}
use Rattle.cmd_check.specs.Check.{check_answer, check_files, check_in}
use Rattle.cmd_check.specs.Headline.{IsAgreed}
use Rattle.cmd_judge.specs.Judge.{judge_answer, judge_files, judge_in}
use Rattle.cmd_judge.specs.Headline.{IsTraceJudged}
use Rattle.cmd_decorrelate.specs.Decorrelate.{decorrelate_answer, decorrelate_files, decorrelate_in}
use Rattle.cmd_decorrelate.specs.Headline.{IsDecorrelated}
use Rattle.cmd_narrow.specs.Headline.{IsNarrowed, IsNoProposal, IsUnacceptable}
use Rattle.cmd_narrow.specs.Narrow.{narrow_answer, narrow_files, narrow_in}
use Rattle.cmd_replay.specs.Headline.{HasRun, IsTraceReplayed}
use Rattle.cmd_replay.specs.Replay.{replay_answer}
use Rattle.cmd_replay.specs.Words.{replay_files, replay_in}
use Rattle.spd_lanes.specs.Machine.{Machine}
use Rattle.audit_top.specs.declared.command.Command.{Command}
use Rattle.audit_top.specs.declared.outcome.Outcome.{Outcome}
use Rattle.audit_top.specs.Outcome.{audited, certified, judged, narrowed, replayed}

-- The first of two, where it is there.
abbrev pub first_of : Option Command → Option Command → Option Command
first_of (Some command) other = Some command
first_of None other = other

-- The command that the words are.
abbrev pub command_in : List (List ℕ) → Option Command
command_in words =
    first_of (option_map Command.Judge (judge_in words))
    (first_of (option_map Command.Decorrelate (decorrelate_in words))
    (first_of (option_map Command.Replay (replay_in words))
    (first_of (option_map Command.Narrow (narrow_in words))
    (first_of (option_map Command.Audit (audit_in words))
    (option_map Command.Check (check_in words))))))

-- What it answers, as an outcome of the program.
abbrev pub answer_of : (List ℕ → Option (List ℕ)) → Command → Option (Answer Outcome)
answer_of told (Command.Judge judge) = option_map (map_answer judged) (judge_answer told judge)
answer_of told (Command.Decorrelate decorrelate) =
    option_map (map_answer (λ _. Outcome.Done)) (decorrelate_answer told decorrelate)
answer_of told (Command.Replay replay) = option_map (map_answer replayed) (replay_answer told replay)
answer_of told (Command.Narrow narrow) = option_map (map_answer narrowed) (narrow_answer told narrow)
answer_of told (Command.Audit audit) = option_map (map_answer audited) (audit_answer told audit)
answer_of told (Command.Check check) = option_map (map_answer certified) (check_answer told check)

-- The files that it reads.
abbrev pub files_of : Command → List InputFile
files_of (Command.Judge judge) = judge_files judge
files_of (Command.Decorrelate decorrelate) = decorrelate_files decorrelate
files_of (Command.Replay replay) = replay_files replay
files_of (Command.Narrow narrow) = narrow_files narrow
files_of (Command.Audit audit) = audit_files audit
files_of (Command.Check check) = check_files check

-- What a run that came to an answer has written, where its files tell their contents.
abbrev pub Means : (List ℕ → Option (List ℕ)) → Option (List ℕ) → Option (List ℕ) → Outcome → Command → Type 0
Means told before now Outcome.Done (Command.Judge judge) =
    IfSome (told judge.policy.name) (λ policy. IfSome (told judge.trace.name) (λ trace. IsTraceJudged policy trace before now))
Means told before now Outcome.Done (Command.Decorrelate decorrelate) =
    IfSome (told decorrelate.policy.name) (λ policy. IsDecorrelated policy before now)
Means told before now Outcome.Done (Command.Replay replay) =
    IfSome (told replay.policy.name) (λ policy. IfSome (told replay.trace.name) (λ trace. IsTraceReplayed replay policy trace before now))
Means told before now Outcome.Done (Command.Narrow narrow) =
    IfSome (told narrow.policy.name) (λ policy. IfSome (told narrow.proposal.name) (λ proposal. IsNarrowed policy proposal before now))
Means told before now Outcome.Unacceptable (Command.Narrow narrow) =
    IfSome (told narrow.policy.name) (λ policy. IfSome (told narrow.proposal.name) (λ proposal. IsUnacceptable policy proposal before now))
Means told before now (Outcome.ProposalFault fault) (Command.Narrow narrow) =
    IfSome (told narrow.policy.name) (λ policy. IfSome (told narrow.proposal.name) (λ proposal. IsNoProposal policy proposal fault before now))
Means told before now Outcome.Done (Command.Audit audit) =
    IfSome (told audit.policy_a.name) (λ a. IfSome (told audit.policy_b.name) (λ b. IsAgreement a b before now))
Means told before now Outcome.Differ (Command.Audit audit) =
    IfSome (told audit.policy_a.name) (λ a. IfSome (told audit.policy_b.name) (λ b. IsDifference a b before now))
Means told before now Outcome.Done (Command.Check check) =
    IfSome (told check.policy_a.name) (λ a. IfSome (told check.policy_b.name) (λ b. IfSome (told check.certificate.name) (λ certificate. IsAgreed a b before now)))
Means told before now _ command = Unit {0}

-- The machine that a run leaves: after a replay that is done the one that ran, which has run over all events where the files tell
-- their contents; else none.
abbrev pub IsKept : (List ℕ → Option (List ℕ)) → Option Command → Outcome → Option Machine → Type 0
IsKept told (Some (Command.Replay replay)) Outcome.Done kept =
    IsSomeAnd kept (λ m. IfSome (told replay.policy.name) (λ policy. IfSome (told replay.trace.name) (λ trace. HasRun replay policy trace m)))
IsKept told command outcome kept = kept ≡ None

-- What `narrow LIMIT POLICY PROPOSAL` answers.
use Rattle.std.specs.Str.{bytes_eq}
use Rattle.std.specs.Prelude.{ℕ, Bool, true, false, ◌++◌, codes, List, [], ◌∷◌, Option, Some, None, Result, Ok, Err, if◌then◌else◌}
use Rattle.hex.specs.Hex.{encode_lower}
use Rattle.sel_box.specs.declared.packet.Direction.TheVariants.{Outbound, Inbound}
use Rattle.spd_cut.specs.Entries.{entries}
use Rattle.spd_line.specs.declared.line.LineParts.{LineParts}
use Rattle.spd_line.specs.First.{name_at}
use Rattle.ts_narrow.specs.declared.narrowed.Narrowed.{Narrowed}
use Rattle.ts_narrow.specs.declared.narrowed.Narrowed.TheVariants.{Pair, Unacceptable}
use Rattle.ts_narrow.specs.Narrowing.{narrowing}
use Rattle.ts_payload.specs.declared.selector.Ts.{Ts}
use Rattle.ts_payload.specs.Payload.{payload_bytes}
use Rattle.ts_wire.specs.declared.fault.ProposalFault.{ProposalFault}
use Rattle.ts_wire.specs.declared.proposal.Proposal.{Proposal}
use Rattle.ts_wire.specs.Proposal.{proposal_of}
use Rattle.audit_frame.specs.Answer.{Answer, ending, with_file, with_policy}
use Rattle.audit_frame.specs.Causes.{InputFile}
use Rattle.audit_frame.specs.Further.{with_limit_before}
use Rattle.audit_frame.specs.Loading.{plain_file, policy_file}
use Rattle.audit_frame.specs.Words.{count_in, file_in, FileWord, most_limit}
use Rattle.cmd_narrow.specs.declared.command.Narrow.{Narrow}
use Rattle.cmd_narrow.specs.declared.command.NarrowEnd.{NarrowEnd}

-- The most bytes of a proposal.
abbrev pub most_proposal : ℕ
most_proposal = 65536

-- The command of a limit, a policy and a proposal, where all are there.
abbrev pub command_of : Option ℕ → Option FileWord → Option FileWord → Option Narrow
command_of (Some limit) (Some policy) (Some proposal) = Some (record { limit = limit; policy = policy; proposal = proposal })
command_of _ _ _ = None

-- The command of some words: `narrow`, a limit, and the names of a policy and of a proposal, neither empty.
abbrev pub narrow_in : List (List ℕ) → Option Narrow
narrow_in (command ∷ limit ∷ policy ∷ proposal ∷ []) =
    if bytes_eq command (codes "narrow")
    then command_of (count_in most_limit limit) (file_in 3 policy) (file_in 4 proposal)
    else None
narrow_in _ = None

-- The files that it reads.
abbrev pub narrow_files : Narrow → List InputFile
narrow_files command = policy_file command.policy ∷ plain_file command.proposal most_proposal ∷ []

-- The hexadecimal digits of the payload of some selectors, with the number of the payload behind it.
abbrev pub payload_digits : ℕ → List Ts → List ℕ
payload_digits next selectors = encode_lower (payload_bytes next selectors)

-- The line of the notice ADDITIONAL_TS_POSSIBLE, where it is due.
abbrev pub notice_lines : Bool → List (List ℕ)
notice_lines true = (codes "additional 16386" ++ codes "\n") ∷ []
notice_lines false = []

-- The lines of what is accepted, with the digits of both payloads.
abbrev pub digit_lines : List ℕ → List ℕ → List ℕ → Bool → List (List ℕ)
digit_lines name tsi tsr additional =
    ((codes "narrowed " ++ name) ++ codes "\n")
    ∷ ((codes "tsi " ++ tsi) ++ codes "\n")
    ∷ ((codes "tsr " ++ tsr) ++ codes "\n")
    ∷ notice_lines additional

-- The same of the selectors of both sides: behind TSi comes TSr, whose number is 45, and behind that none.
abbrev pub pair_lines : List ℕ → List Ts → List Ts → Bool → List (List ℕ)
pair_lines name tsi tsr additional = digit_lines name (payload_digits 45 tsi) (payload_digits 0 tsr) additional

-- That some is accepted.
abbrev pub accepted : List ℕ → List Ts → List Ts → Bool → Answer NarrowEnd
accepted name tsi tsr additional = record { ended = Ok NarrowEnd.Done; lines = pair_lines name tsi tsr additional }

-- That nothing is: the error TS_UNACCEPTABLE.
abbrev pub nothing_acceptable : Answer NarrowEnd
nothing_acceptable = record { ended = Ok NarrowEnd.Unacceptable; lines = (codes "unacceptable 38" ++ codes "\n") ∷ [] }

-- The answer by what a proposal is narrowed to, with the name of the line that protects it.
abbrev pub by_narrowed : List LineParts → Narrowed → Answer NarrowEnd
by_narrowed lines Unacceptable = nothing_acceptable
by_narrowed lines (Pair tsi tsr link additional) = accepted (name_at lines link) tsi tsr additional

-- The answer to a proposal, by the entries of the policy in both directions.
abbrev pub narrowed_answer : List LineParts → Proposal → Answer NarrowEnd
narrowed_answer lines proposal =
    by_narrowed lines (narrowing (entries Outbound lines) (entries Inbound lines) proposal.tsi proposal.tsr)

-- The answer to what a text gives; of one that is no proposal nothing is written.
abbrev pub by_proposal : List LineParts → Result Proposal ProposalFault → Answer NarrowEnd
by_proposal lines (Err fault) = ending (NarrowEnd.ProposalFault fault)
by_proposal lines (Ok proposal) = narrowed_answer lines proposal

-- The answer by the lines of the policy and the text of the proposal.
abbrev pub proposal_answer : List LineParts → List ℕ → Answer NarrowEnd
proposal_answer lines text = by_proposal lines (proposal_of text)

-- The same as an answer that rests on no further file, and by the proposal's file.
abbrev pub by_text : List LineParts → List ℕ → Option (Answer NarrowEnd)
by_text lines text = Some (proposal_answer lines text)

abbrev pub by_file : (List ℕ → Option (List ℕ)) → Narrow → List LineParts → Option (Answer NarrowEnd)
by_file told command lines = with_file told command.proposal most_proposal (by_text lines)

-- The inbound limit comes before the file of the proposal, and the outbound limit before the inbound one.
abbrev pub by_inbound : (List ℕ → Option (List ℕ)) → Narrow → List LineParts → Option (Answer NarrowEnd)
by_inbound told command lines = with_limit_before command.policy.word command.limit Inbound lines (by_file told command lines)

abbrev pub by_outbound : (List ℕ → Option (List ℕ)) → Narrow → List LineParts → Option (Answer NarrowEnd)
by_outbound told command lines =
    with_limit_before command.policy.word command.limit Outbound lines (by_inbound told command lines)

-- The answer of the command; a file that isn't told leaves it open.
abbrev pub narrow_answer : (List ℕ → Option (List ℕ)) → Narrow → Option (Answer NarrowEnd)
narrow_answer told command = with_policy told command.policy (by_outbound told command)

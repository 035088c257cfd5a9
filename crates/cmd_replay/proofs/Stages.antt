-- The stages of a run: the policy is read, then compiled, then the trace is read, and then it is replayed.
use Rattle.std.proofs.Common.{◌≡◌, ℕ, ◌≤◌, List, length, Option, None, Some, Result, Ok, Err, lit<, refl}
use Rattle.std.specs.Prelude.{Any, IfErr, IfSome}
use Rattle.pair_io.specs.Counts.{NoneFell}
use Rattle.pair_io.proofs.Gains.{Gains-nothing, GainsPrefix-nothing}
use Rattle.sel_box.specs.declared.packet.Direction.{Direction}
use Rattle.spd_file.specs.Policy.{policy_meaning}
use Rattle.spd_lanes.specs.Policy.{over}
use Rattle.spd_line.specs.declared.line.LineParts.{LineParts}
use Rattle.audit_frame.specs.declared.refusal.Refusal.{Refusal}
use Rattle.audit_frame.specs.Answer.{Answer, most_policy}
use Rattle.audit_frame.specs.Causes.{InputFile, IsPolicyFile, Reads}
use Rattle.audit_frame.specs.Ends.{Ends, EndsBy}
use Rattle.audit_frame.specs.Loading.{policy_file}
use Rattle.audit_frame.specs.Runs.{Counts, Runs}
use Rattle.audit_frame.proofs.Runs.{Runs-file, Runs-policy}
use Rattle.cmd_replay.specs.declared.command.ReplayEnd.{ReplayEnd}
use Rattle.cmd_replay.specs.Replay.{by_lines, by_trace, replay_answer, unless_passed}
use Rattle.cmd_replay.specs.Words.{most_trace, replay_files, ReplayWords}
use Rattle.cmd_replay.specs.inner.Stages.{IsTraceRefusal, OverCauses}

-- The word of the command's policy names one of its files, a policy.
is_policy : (command : ReplayWords) → Any (IsPolicyFile command.policy.word) (replay_files command)
is_policy command = (0, policy_file command.policy, lit< tt, refl, record { named = refl; is_policy = refl })

ends-no_memory : {A : Type 0} (answer : Option (Answer A)) (before : Option (List ℕ)) → Ends answer before before (Err Refusal.NoMemory)
ends-no_memory None before = tt
ends-no_memory (Some answer) before = GainsPrefix-nothing refl

-- What follows on the lines of the policy is what follows on its file.
pub Runs-lines : (command : ReplayWords) (lines : List LineParts) (told : List ℕ → Option (List ℕ)) (before between now : Reads) (faults faults' : ℕ)
    (text text' : Option (List ℕ)) (ended : Result ReplayEnd Refusal)
    → IfSome (told command.policy.name) (λ c. length c ≤ most_policy) → IfSome (told command.policy.name) (λ c. policy_meaning c ≡ Ok lines)
    → NoneFell before.faults between.faults → before.taken ≤ between.taken
    → Runs (by_lines told command lines) (replay_files command) told between now faults faults' text text' ended
    → Runs (replay_answer told command) (replay_files command) told before now faults faults' text text' ended
Runs-lines command lines told before between now faults faults' text text' ended =
    Runs-policy lines (by_lines told command) (replay_files command) told command.policy before between now faults faults' text text' ended

-- What follows on the bytes of the trace is what follows on its file.
pub Runs-trace : (command : ReplayWords) (lines : List LineParts) (bytes : List ℕ) (told : List ℕ → Option (List ℕ)) (before between now : Reads)
    (faults faults' : ℕ) (text text' : Option (List ℕ)) (ended : Result ReplayEnd Refusal) → over command.limit lines ≡ None
    → IfSome (told command.trace.name) (λ c. bytes ≡ c) → length bytes ≤ most_trace
    → NoneFell before.faults between.faults → before.taken ≤ between.taken
    → Runs (by_trace command lines bytes) (replay_files command) told between now faults faults' text text' ended
    → Runs (by_lines told command lines) (replay_files command) told before now faults faults' text text' ended
Runs-trace command lines bytes told before between now faults faults' text text' ended within same fits none_fell taken runs =
    rw within (Runs-file bytes (by_trace command lines) (replay_files command) told command.trace most_trace before between now faults faults'
    text text' ended same fits none_fell taken runs)

-- A policy that wasn't compiled ends the run.
pub Runs-uncompiled : {A : Type 0} (command : ReplayWords) (found : Option (Direction × ℕ)) (next : Option (Answer A)) (told : List ℕ → Option (List ℕ))
    (before now : Reads) (faults : ℕ) (text : Option (List ℕ)) (refusal : Refusal) → OverCauses command.policy.word found refusal
    → Runs (unless_passed command.policy.word found next) (replay_files command) told before now faults faults text text (Err refusal)
Runs-uncompiled command found next told before now faults text (Refusal.EntryLimit at direction line edit) cause = record {
  ends = rw (cause.named, cause.first, cause.no_edit) (record { ended_is = refl; all_lines = Gains-nothing text text refl });
  causes = rw cause.named (is_policy command);
  counts = refl;
  leaves = rw cause.no_edit refl;
}
Runs-uncompiled command found next told before now faults text Refusal.NoMemory cause =
    record { ends = ends-no_memory (unless_passed command.policy.word found next) text; causes = tt; counts = refl; leaves = tt }
Runs-uncompiled command found next told before now faults text (Refusal.ReadFault at) cause = absurd cause
Runs-uncompiled command found next told before now faults text (Refusal.TooLong at) cause = absurd cause
Runs-uncompiled command found next told before now faults text (Refusal.PolicyFault at fault) cause = absurd cause
Runs-uncompiled command found next told before now faults text Refusal.WriteFault cause = absurd cause

-- A policy that was compiled is gone on with.
pub Runs-compiled : {A : Type 0} (command : ReplayWords) (found : Option (Direction × ℕ)) (next : Option (Answer A)) (told : List ℕ → Option (List ℕ))
    (before now : Reads) (faults faults' : ℕ) (text text' : Option (List ℕ)) (ended : Result A Refusal) → found ≡ None
    → Runs next (replay_files command) told before now faults faults' text text' ended
    → Runs (unless_passed command.policy.word found next) (replay_files command) told before now faults faults' text text' ended
Runs-compiled command found next told before now faults faults' text text' ended within runs = rw within runs

-- There was no memory for a cache.
pub Runs-no_memory : {A : Type 0} (answer : Option (Answer A)) (files : List InputFile) (told : List ℕ → Option (List ℕ)) (before now : Reads)
    (faults : ℕ) (text : Option (List ℕ)) → Runs answer files told before now faults faults text text (Err Refusal.NoMemory)
Runs-no_memory answer files told before now faults text = record { ends = ends-no_memory answer text; causes = tt; counts = refl; leaves = tt }

-- A trace was replayed to the end of its answer, or the text couldn't be written so far.
pub Runs-replayed : {A : Type 0} (command : ReplayWords) (answer : Answer A) (told : List ℕ → Option (List ℕ)) (before now : Reads) (faults faults' : ℕ)
    (text text' : Option (List ℕ)) (ended : Result A Refusal) → EndsBy answer text text' ended → Counts faults faults' ended
    → IfErr ended (IsTraceRefusal command.policy.word)
    → Runs (Some answer) (replay_files command) told before now faults faults' text text' ended
Runs-replayed command answer told before now faults faults' text text' (Ok end) ends counted refused =
    record { ends = ends; causes = tt; counts = counted; leaves = tt }
Runs-replayed command answer told before now faults faults' text text' (Err (Refusal.EntryLimit at direction line (Some number))) ends counted refused =
    record { ends = ends; causes = rw refused (is_policy command); counts = counted; leaves = tt }
Runs-replayed command answer told before now faults faults' text text' (Err (Refusal.EntryLimit at direction line None)) ends counted refused = absurd refused
Runs-replayed command answer told before now faults faults' text text' (Err Refusal.WriteFault) ends counted refused =
    record { ends = ends; causes = tt; counts = counted; leaves = tt }
Runs-replayed command answer told before now faults faults' text text' (Err Refusal.NoMemory) ends counted refused =
    record { ends = ends; causes = tt; counts = counted; leaves = tt }
Runs-replayed command answer told before now faults faults' text text' (Err (Refusal.ReadFault at)) ends counted refused = absurd refused
Runs-replayed command answer told before now faults faults' text text' (Err (Refusal.TooLong at)) ends counted refused = absurd refused
Runs-replayed command answer told before now faults faults' text text' (Err (Refusal.PolicyFault at fault)) ends counted refused = absurd refused

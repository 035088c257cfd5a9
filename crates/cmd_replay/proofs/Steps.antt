-- One trace line after another: why the replay stops at one, and what was written so far.
use Rattle.std.proofs.Common.{◌≡◌, ℕ, List, Option, Result, Ok, Err, refl}
use Rattle.std.specs.Prelude.{IfErr}
use Rattle.pair_io.specs.Gains.{Gains, GainsPrefix}
use Rattle.pair_io.proofs.Gains.{Gains-nothing, GainsPrefix-first, GainsPrefix-nothing}
use Rattle.spd_lanes.specs.Machine.{Machine}
use Rattle.audit_frame.specs.declared.refusal.WriteRefused.{WriteRefused}
use Rattle.audit_frame.specs.Answer.{Answer, IsSent, text_of, with_line}
use Rattle.audit_frame.specs.Ends.{EndsBy}
use Rattle.audit_frame.specs.Runs.{Counts}
use Rattle.audit_frame.proofs.Lines.{IsSent-answer, IsSent-line, IsSent-prefix}
use Rattle.cmd_replay.specs.declared.command.ReplayEnd.{ReplayEnd}
use Rattle.cmd_replay.specs.declared.reply.EventReply.{EventReply}
use Rattle.cmd_replay.specs.declared.stop.Stop.{Stop}
use Rattle.cmd_replay.specs.Replay.{by_reply, stopping}
use Rattle.cmd_replay.specs.Reply.{reply_line}
use Rattle.cmd_replay.specs.Stop.{ended_at}
use Rattle.cmd_replay.specs.inner.Stages.{IsTraceRefusal}
use Rattle.cmd_replay.specs.inner.Step.{IsStop, StopCauses}

-- An answer that ends by a stop, before anything was written.

pub EndsBy-stopping : (word number : ℕ) (stop : Stop) (before : Option (List ℕ)) → EndsBy (stopping word number stop) before before (ended_at word number stop)
EndsBy-stopping word number (Stop.Fault fault) before = record { ended_is = refl; all_lines = Gains-nothing before before refl }
EndsBy-stopping word number (Stop.Limit direction line) before = record { ended_is = refl; all_lines = Gains-nothing before before refl }
EndsBy-stopping word number (Stop.Unwritten WriteRefused.WriteFault) before = GainsPrefix-nothing refl
EndsBy-stopping word number (Stop.Unwritten WriteRefused.NoMemory) before = GainsPrefix-nothing refl

pub EndsBy-stop : (word number : ℕ) (found : Result (EventReply × Machine) Stop) (stop : Stop) (others : Machine → Answer ReplayEnd)
    (before : Option (List ℕ)) → IsStop found stop → EndsBy (by_reply word number found others) before before (ended_at word number stop)
EndsBy-stop word number found (Stop.Fault fault) others before is = rw is (EndsBy-stopping word number (Stop.Fault fault) before)
EndsBy-stop word number found (Stop.Limit direction line) others before is = rw is (EndsBy-stopping word number (Stop.Limit direction line) before)
EndsBy-stop word number found (Stop.Unwritten WriteRefused.NoMemory) others before is = GainsPrefix-nothing refl
EndsBy-stop word number found (Stop.Unwritten WriteRefused.WriteFault) others before is = absurd is

-- No fault of the sink.
pub StopCauses-none : {A : Type 0} (found : Result A Stop) (stop : Stop) (faults : ℕ) → IsStop found stop → StopCauses faults faults stop
StopCauses-none found (Stop.Fault fault) faults is = refl
StopCauses-none found (Stop.Limit direction line) faults is = refl
StopCauses-none found (Stop.Unwritten WriteRefused.NoMemory) faults is = refl
StopCauses-none found (Stop.Unwritten WriteRefused.WriteFault) faults is = absurd is

-- The line of a reply couldn't be written.
pub EndsBy-unwritten : (answer : Answer ReplayEnd) (word number : ℕ) (refused : WriteRefused) (before now : Option (List ℕ))
    → GainsPrefix before now (text_of answer.lines) → EndsBy answer before now (ended_at word number (Stop.Unwritten refused))
EndsBy-unwritten answer word number WriteRefused.WriteFault before now prefix = prefix
EndsBy-unwritten answer word number WriteRefused.NoMemory before now prefix = prefix

pub EndsBy-line : (word number : ℕ) (found : Result (EventReply × Machine) Stop) (reply : EventReply) (after : Machine)
    (others : Machine → Answer ReplayEnd) (refused : WriteRefused) (before now : Option (List ℕ)) → found ≡ Ok (reply, after)
    → GainsPrefix before now (reply_line number reply)
    → EndsBy (by_reply word number found others) before now (ended_at word number (Stop.Unwritten refused))
EndsBy-line word number found reply after others refused before now is prefix =
    rw is (EndsBy-unwritten (with_line (reply_line number reply) (others after)) word number refused before now
    (GainsPrefix-first {first = reply_line number reply} (text_of (others after).lines) prefix))

-- It was written.
pub IsSent-reply : (word number : ℕ) (found : Result (EventReply × Machine) Stop) (reply : EventReply) (after : Machine)
    (others : Machine → Answer ReplayEnd) (before now : Option (List ℕ)) → found ≡ Ok (reply, after)
    → Gains before now (reply_line number reply) → IsSent (by_reply word number found others) (others after) before now
IsSent-reply word number found reply after others before now is gained = rw is (IsSent-line (others after) (reply_line number reply) before now gained)

-- A stop behind what was sent.
pub EndsBy-sent : (whole left : Answer ReplayEnd) (word number : ℕ) (stop : Stop) (before between now : Option (List ℕ))
    → IsSent whole left before between → EndsBy left between now (ended_at word number stop) → EndsBy whole before now (ended_at word number stop)
EndsBy-sent whole left word number (Stop.Fault fault) before between now sent ends =
    IsSent-answer whole left before between now (Ok (ReplayEnd.TraceFault number fault)) sent ends
EndsBy-sent whole left word number (Stop.Limit direction line) before between now sent ends =
    IsSent-answer whole left before between now (ended_at word number (Stop.Limit direction line)) sent ends
EndsBy-sent whole left word number (Stop.Unwritten WriteRefused.WriteFault) before between now sent ends = IsSent-prefix whole left before between now sent ends
EndsBy-sent whole left word number (Stop.Unwritten WriteRefused.NoMemory) before between now sent ends = IsSent-prefix whole left before between now sent ends

pub Counts-stop : (word number : ℕ) (stop : Stop) (faults faults' : ℕ) → StopCauses faults faults' stop → Counts faults faults' (ended_at word number stop)
Counts-stop word number (Stop.Fault fault) faults faults' cause = cause
Counts-stop word number (Stop.Limit direction line) faults faults' cause = cause
Counts-stop word number (Stop.Unwritten WriteRefused.WriteFault) faults faults' cause = cause
Counts-stop word number (Stop.Unwritten WriteRefused.NoMemory) faults faults' cause = cause

pub IsTraceRefusal-stop : (word number : ℕ) (stop : Stop) → IfErr (ended_at word number stop) (IsTraceRefusal word)
IsTraceRefusal-stop word number (Stop.Fault fault) = tt
IsTraceRefusal-stop word number (Stop.Limit direction line) = refl
IsTraceRefusal-stop word number (Stop.Unwritten WriteRefused.WriteFault) = tt
IsTraceRefusal-stop word number (Stop.Unwritten WriteRefused.NoMemory) = tt

-- The replies to the events of a trace, and how they are printed.
use Rattle.std.specs.Prelude.{ℕ, ◌++◌, Bool, true, false, codes, decimal, length, List, Some, None}
use Rattle.sel_box.specs.declared.packet.Direction.TheVariants.{Outbound, Inbound}
use Rattle.spd_cut.specs.Entries.{entries}
use Rattle.spd_lanes.specs.Run.{Reply}
use Rattle.spd_line.specs.declared.judgement.Answer.{Answer}
use Rattle.spd_line.specs.declared.line.LineParts.{LineParts}
use Rattle.spd_text.specs.JudgementText.{verdict_text}
use Rattle.cmd_replay.specs.declared.reply.EventReply.{EventReply}

-- The machine's reply with its policy after the event: an edit says how many entries the policy has in each direction.
abbrev pub reply_of : List LineParts → Reply → EventReply
reply_of lines (Reply.Asked reply) = EventReply.Asked reply
reply_of lines (Reply.Taken answer) = EventReply.Taken answer
reply_of lines (Reply.Searched answer) = EventReply.Searched answer
reply_of lines (Reply.Filling filled) = EventReply.Filling filled
reply_of lines Reply.Edited = EventReply.Edited (length (entries Outbound lines)) (length (entries Inbound lines))

-- Whether the cache had the answer to a packet at once.
abbrev pub hit_word : Bool → List ℕ
hit_word true = codes "hit"
hit_word false = codes "miss"

-- Whether the policy was edited since the lookup's second step.
abbrev pub filled_word : Bool → List ℕ
filled_word true = codes "stale"
filled_word false = codes "filled"

-- A word and a verdict.
abbrev pub worded : List ℕ → Answer → List ℕ
worded word verdict = word ++ (codes " " ++ verdict_text verdict)

-- The numbers of entries after an edit.
abbrev pub edited_text : ℕ → ℕ → List ℕ
edited_text outbound inbound = codes "edited " ++ (decimal outbound ++ (codes " " ++ decimal inbound))

-- The printed form of a reply.
abbrev pub reply_text : EventReply → List ℕ
reply_text (EventReply.Asked reply) = worded (hit_word reply.hit) reply.answer
reply_text (EventReply.Taken (Some answer)) = worded (codes "hit") answer
reply_text (EventReply.Taken None) = codes "missed"
reply_text (EventReply.Searched answer) = worded (codes "found") answer
reply_text (EventReply.Filling filled) = worded (filled_word filled.stale) filled.answer
reply_text (EventReply.Edited outbound inbound) = edited_text outbound inbound

-- A reply behind the number of its trace line, and that line with its end.
abbrev pub numbered : ℕ → EventReply → List ℕ
numbered number reply = decimal number ++ (codes " " ++ reply_text reply)

abbrev pub reply_line : ℕ → EventReply → List ℕ
reply_line number reply = numbered number reply ++ codes "\n"

-- What `decorrelate LIMIT POLICY` answers.
use Rattle.std.specs.Str.{bytes_eq}
use Rattle.std.specs.Prelude.{ℕ, ◌++◌, map, codes, List, [], ◌∷◌, Option, Some, None, Ok, if◌then◌else◌}
use Rattle.sel_box.specs.declared.packet.Direction.TheVariants.{Outbound, Inbound}
use Rattle.spd_cut.specs.declared.entry.Entry.{Entry}
use Rattle.spd_cut.specs.Entries.{entries}
use Rattle.spd_line.specs.declared.line.LineParts.{LineParts}
use Rattle.spd_line.specs.First.{name_at}
use Rattle.spd_views.specs.declared.listing.View.{View}
use Rattle.spd_views.specs.EntryText.{entry_text}
use Rattle.spd_views.specs.Listing.{listing, view_text, ListedEntry}
use Rattle.audit_frame.specs.Answer.{Answer, with_limit, with_policy}
use Rattle.audit_frame.specs.Causes.{InputFile}
use Rattle.audit_frame.specs.Loading.{policy_file}
use Rattle.audit_frame.specs.Words.{count_in, file_in, FileWord, most_limit}
use Rattle.cmd_decorrelate.specs.declared.command.Decorrelate.{Decorrelate}

-- The command of a limit and a policy, where both are there.
abbrev pub command_of : Option ℕ → Option FileWord → Option Decorrelate
command_of (Some limit) (Some policy) = Some (record { limit = limit; policy = policy })
command_of _ _ = None

-- The command of some words: `decorrelate`, a limit, and the name of a policy, which isn't empty.
abbrev pub decorrelate_in : List (List ℕ) → Option Decorrelate
decorrelate_in (command ∷ limit ∷ policy ∷ []) =
    if bytes_eq command (codes "decorrelate") then command_of (count_in most_limit limit) (file_in 3 policy) else None
decorrelate_in _ = None

-- The file that it reads.
abbrev pub decorrelate_files : Decorrelate → List InputFile
decorrelate_files command = policy_file command.policy ∷ []

-- The line of an entry, with the name of the policy line that it comes from.
abbrev pub entry_line : List LineParts → ListedEntry → List ℕ
entry_line lines listed = entry_text listed.direction listed.entry (name_at lines listed.entry.link) ++ codes "\n"

-- A view: the line with its name, and its entries line by line.
abbrev pub view_lines : List LineParts → List Entry → List Entry → View → List (List ℕ)
view_lines lines outbound inbound view =
    (view_text view ++ codes "\n") ∷ map (entry_line lines) (listing view outbound inbound)

-- The three views, one after another.
abbrev pub views_lines : List LineParts → List Entry → List Entry → List (List ℕ)
views_lines lines outbound inbound =
    view_lines lines outbound inbound View.SpdS
    ++ (view_lines lines outbound inbound View.SpdO ++ view_lines lines outbound inbound View.SpdI)

-- The views, written to the end.
abbrev pub views_answer : List LineParts → List Entry → List Entry → Answer (Unit {0})
views_answer lines outbound inbound = record { ended = Ok tt; lines = views_lines lines outbound inbound }

-- The answer by the lines of the policy that a word names: both directions are cut, outbound first, before anything
-- is written.
abbrev pub lines_answer : ℕ → ℕ → List LineParts → Answer (Unit {0})
lines_answer word limit lines =
    with_limit word limit Outbound lines
    (with_limit word limit Inbound lines (views_answer lines (entries Outbound lines) (entries Inbound lines)))

-- The same as an answer that rests on no further file.
abbrev pub by_lines : ℕ → ℕ → List LineParts → Option (Answer (Unit {0}))
by_lines word limit lines = Some (lines_answer word limit lines)

-- The answer of the command; a policy that isn't told leaves it open.
abbrev pub decorrelate_answer : (List ℕ → Option (List ℕ)) → Decorrelate → Option (Answer (Unit {0}))
decorrelate_answer told command = with_policy told command.policy (by_lines command.policy.word command.limit)

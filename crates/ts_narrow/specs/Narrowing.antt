-- What a responder answers to a proposal, by boxes (RFC 7296 section 2.9). Which subset it picks is this project's own.
use Rattle.std.specs.Prelude.{ℕ, Bool, false, ◌==◌, ◌&&◌, ◌||◌, List, [], ◌∷◌, take, Option, Some, None, if◌then◌else◌}
use Rattle.std.specs.List.{find, list_any}
use Rattle.sel_box.specs.declared.any_box.AnyBox.{AnyBox}
use Rattle.sel_box.specs.BoxRegion.{box_minus, box_within}
use Rattle.spd_cut.specs.declared.entry.Entry.{Entry}
use Rattle.ts_cover.specs.Pairs.{first_pair, pairs}
use Rattle.ts_cover.specs.RealParts.{leaves, reaches, says}
use Rattle.ts_cover.specs.Writing.{can_write, cut_selectors, local_side, remote_side, written_part}
use Rattle.ts_payload.specs.declared.selector.Ts.{Ts}
use Rattle.ts_span.specs.Spelling.{has_number}
use Rattle.ts_narrow.specs.declared.choice.Choice.{Choice}
use Rattle.ts_narrow.specs.declared.choice.Form.{Form}
use Rattle.ts_narrow.specs.declared.meets.Meet.{Meet}
use Rattle.ts_narrow.specs.declared.narrowed.Narrowed.{Narrowed}
use Rattle.ts_narrow.specs.Meets.{meets, regions_of}

-- The line of the first meet that has a real point of the box, where its meets have all real points of the box.
abbrev pub link_unless_left : AnyBox → List Meet → Option Meet → Option ℕ
link_unless_left first list None = None
link_unless_left first list (Some meet) = if leaves (first ∷ []) (regions_of meet.link list) then None else Some meet.link

abbrev pub kept_link : AnyBox → List Meet → Option ℕ
kept_link first list = link_unless_left first list (find (λ (meet : Meet). reaches (first ∷ []) meet.region) list)

-- The meet is of the line and holds the whole box, and what it is cut to can be written without loss for the box.
abbrev pub serves : AnyBox → ℕ → Meet → Bool
serves first link meet =
    (meet.link == link) && (box_within first meet.region && (can_write meet.region || has_number (local_side first)))

-- Every selector is cut to the part of a meet that can be written.
abbrev pub cut_to : List AnyBox → Meet → Choice
cut_to boxes meet = record { region = written_part boxes meet.region; link = meet.link; form = Form.Cut }

-- Where a first pair is kept: cut to the first meet that serves, and the first two selectors alone where none does.
abbrev pub by_serving : AnyBox → ℕ → Option Meet → Choice
by_serving first link (Some meet) = cut_to (first ∷ []) meet
by_serving first link None = record { region = first; link = link; form = Form.FirstPair }

-- Where none is kept: cut to the first meet with a sayable real point in the first pair, and else to the one that has one in
-- some pair.
abbrev pub by_saying : List AnyBox → AnyBox → Meet → Option Meet → Choice
by_saying cover first said (Some meet) = cut_to (first ∷ []) meet
by_saying cover first said None = cut_to cover said

abbrev pub by_link : List AnyBox → AnyBox → Meet → List Meet → Option ℕ → Choice
by_link cover first said list (Some link) = by_serving first link (find (serves first link) list)
by_link cover first said list None = by_saying cover first said (find (λ (meet : Meet). says (first ∷ []) meet.region) list)

-- What is chosen, where this meet is the first with a sayable real point in some pair.
abbrev pub choice : List AnyBox → Option AnyBox → Meet → List Meet → Choice
choice cover None said list = cut_to cover said
choice cover (Some first) said list = by_link cover first said list (kept_link first list)

-- The selectors of a choice.
abbrev pub tsi_of : Choice → Form → List Ts → List Ts
tsi_of chosen Form.Cut tsi = cut_selectors (remote_side chosen.region) tsi
tsi_of chosen Form.FirstPair tsi = take 1 tsi

abbrev pub tsr_of : Choice → Form → List Ts → List Ts
tsr_of chosen Form.Cut tsr = cut_selectors (local_side chosen.region) tsr
tsr_of chosen Form.FirstPair tsr = take 1 tsr

-- The meet has a real point in some pair and outside the region.
abbrev pub misses : List AnyBox → AnyBox → Meet → Bool
misses cover region meet = list_any (reaches cover) (box_minus meet.region region)

abbrev pub pair_of : List Ts → List Ts → ℕ → Bool → Narrowed
pair_of tsi tsr link additional = Narrowed.Pair tsi tsr link additional

abbrev pub answer_of : List Ts → List Ts → List AnyBox → List Meet → Choice → Narrowed
answer_of tsi tsr cover list chosen =
    pair_of (tsi_of chosen chosen.form tsi) (tsr_of chosen chosen.form tsr) chosen.link
    (list_any (misses cover chosen.region) list)

-- The answer where this is the first meet with a sayable real point in some pair: nothing where there is none, the proposal
-- where the meets of its line have all real points of the pairs, and else what is chosen.
abbrev pub by_said : List Ts → List Ts → List AnyBox → List Meet → Option Meet → Narrowed
by_said tsi tsr cover list None = Narrowed.Unacceptable
by_said tsi tsr cover list (Some said) =
    if leaves cover (regions_of said.link list)
    then answer_of tsi tsr cover list (choice cover (first_pair tsi tsr) said list)
    else pair_of tsi tsr said.link false

abbrev pub by_meets : List Meet → List Ts → List Ts → Narrowed
by_meets list tsi tsr =
    by_said tsi tsr (pairs tsi tsr) list (find (λ (meet : Meet). says (pairs tsi tsr) meet.region) list)

-- The answer to a proposal.
unfoldable pub narrowing : List Entry → List Entry → List Ts → List Ts → Narrowed
narrowing outbound inbound tsi tsr = by_meets (meets outbound inbound) tsi tsr

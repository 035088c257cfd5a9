-- What an outbound and an inbound entry of one line have in common.
use Rattle.std.specs.Prelude.{ℕ, ◌==◌, ◌&&◌, List, [], ◌∷◌, Option, None, option_map, if◌then◌else◌}
use Rattle.std.specs.List.{flat_map}
use Rattle.std.specs.Option.{option_to_list}
use Rattle.sel_box.specs.declared.any_box.AnyBox.{AnyBox}
use Rattle.sel_box.specs.BoxRegion.{box_meet}
use Rattle.spd_cut.specs.declared.entry.Entry.{Entry}
use Rattle.ts_narrow.specs.declared.meets.Meet.{Meet}
use Rattle.ts_narrow.specs.Allowed.{is_protect}

-- What both have in common, where they are of one line and both protect.
abbrev pub meet_of : Entry → Entry → Option Meet
meet_of e f =
    if (e.link == f.link) && (is_protect e.judgement && is_protect f.judgement)
    then option_map (λ (region : AnyBox). record { region = region; link = e.link }) (box_meet e.region f.region)
    else None

-- What an outbound entry has in common with each inbound one, in order.
abbrev pub meets_with : Entry → List Entry → List Meet
meets_with e inbound = flat_map (λ f. option_to_list (meet_of e f)) inbound

-- The meets, by the outbound entries and then the inbound ones.
unfoldable pub meets : List Entry → List Entry → List Meet
meets outbound inbound = flat_map (λ e. meets_with e inbound) outbound

-- The region of a meet, where it is of the line.
abbrev pub region_of : ℕ → Meet → List AnyBox
region_of link meet = if meet.link == link then meet.region ∷ [] else []

-- The regions of the meets of a line.
unfoldable pub regions_of : ℕ → List Meet → List AnyBox
regions_of link list = flat_map (region_of link) list

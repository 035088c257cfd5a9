-- What is cached of a line: its entries, as far as they have the values that its flags take from a packet (RFC 4301 section 4.4.1.2).
use Rattle.std.specs.Prelude.{ℕ, Bool, true, ◌==◌, ◌&&◌, List, [], ◌∷◌, Option, Some, None, option_map, option_and_then, if◌then◌else◌}
use Rattle.std.specs.List.{flat_map, list_any}
use Rattle.std.specs.Option.{option_to_list}
use Rattle.sel_box.specs.declared.any_box.AnyBox.{AnyBox}
use Rattle.sel_box.specs.BoxRegion.{box_meet}
use Rattle.sel_box.specs.Bounds.{box_of}
use Rattle.sel_box.specs.Boxes.{box_has, family_of}
use Rattle.sel_box.specs.Class.{opaque_field, opaque_protocol}
use Rattle.sel_box.specs.Point.{PointFields}
use Rattle.sel_text.specs.declared.family.Family.{Family}
use Rattle.sel_text.specs.Family.{last_address, same_family}
use Rattle.spd_line.specs.declared.line_boxes.LineBox.{LineBox}
use Rattle.spd_line.specs.declared.pin.Pins.{Pins}
use Rattle.spd_cut.specs.declared.entry.Entry.{Entry}

-- The value is the pinned one, where there is one.
abbrev pub fits : Option ℕ → ℕ → Bool
fits None value = true
fits (Some pinned) value = pinned == value

-- The family is the pinned one, where there is one.
abbrev pub fits_family : Option Family → Family → Bool
fits_family None family = true
fits_family (Some pinned) family = same_family pinned family

-- The point has all pinned values.
abbrev pub pins_fit : Pins → PointFields → Bool
pins_fit pins x =
    fits_family pins.family x.family
    && (fits pins.local x.local
    && (fits pins.remote x.remote
    && (fits pins.protocol x.protocol
    && (fits pins.local_field x.local_field && fits pins.remote_field x.remote_field))))

-- The pinned value alone, or the whole axis up to its last number.
abbrev pub pin_bounds : ℕ → Option ℕ → ℕ × ℕ
pin_bounds last None = (0, last)
pin_bounds last (Some pinned) = (pinned, pinned)

-- The points of a family that have all pinned values: none where another family is pinned, or a value past its axis.
abbrev pub pin_box : Family → Pins → Option AnyBox
pin_box family pins =
    if fits_family pins.family family
    then box_of family (
    pin_bounds (last_address family) pins.local
    ∷ pin_bounds (last_address family) pins.remote
    ∷ pin_bounds opaque_protocol pins.protocol
    ∷ pin_bounds opaque_field pins.local_field
    ∷ pin_bounds opaque_field pins.remote_field
    ∷ []
    )
    else None

-- The points of a box that have all pinned values.
abbrev pub pinned_part : Pins → AnyBox → Option AnyBox
pinned_part pins region = option_and_then (box_meet region) (pin_box (family_of region) pins)

-- What an entry gives to the group of a line and of pinned values: where it is linked to the line, its points that have them.
abbrev pub group_part : ℕ → Pins → Entry → Option LineBox
group_part link pins entry =
    if entry.link == link
    then option_map (λ (region : AnyBox). record { region = region; judgement = entry.judgement }) (pinned_part pins entry.region)
    else None

-- The group: the entries that are linked to the line, in order, each met with the pinned values.
abbrev pub group_of : List Entry → ℕ → Pins → List LineBox
group_of entries link pins = flat_map (λ entry. option_to_list (group_part link pins entry)) entries

-- Some box of a group has the point.
abbrev pub group_has : List LineBox → PointFields → Bool
group_has group x = list_any (λ box. box_has box.region x) group

-- All regions in which two gateways differ.
use Rattle.std.specs.Prelude.{List, Option, Some, None, if◌then◌else◌}
use Rattle.std.specs.List.{flat_map}
use Rattle.std.specs.Option.{option_to_list}
use Rattle.sel_box.specs.declared.any_box.AnyBox.{AnyBox}
use Rattle.sel_box.specs.SomePoint.{has_packet}
use Rattle.spd_cut.specs.declared.entry.Entry.{Entry}
use Rattle.spd_line.specs.Agree.{same_judgement}
use Rattle.pair_gap.specs.LeastGap.{common_region}

-- The region, where there is one and a packet lies in it.
abbrev pub with_packet : Option AnyBox → Option AnyBox
with_packet None = None
with_packet (Some region) = if has_packet region then Some region else None

-- What both entries have in common, where they are judged differently and a packet lies in it.
abbrev pub gap_region : Entry → Entry → Option AnyBox
gap_region ours theirs =
    if same_judgement ours.judgement theirs.judgement then None else with_packet (common_region ours theirs)

-- The regions of an entry of A with each of B's, and those of all, by A's entry and then by B's.
abbrev pub regions_with : Entry → List Entry → List AnyBox
regions_with ours inbound = flat_map (λ theirs. option_to_list (gap_region ours theirs)) inbound

abbrev pub gap_regions : List Entry → List Entry → List AnyBox
gap_regions outbound inbound = flat_map (λ ours. regions_with ours inbound) outbound

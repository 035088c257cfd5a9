-- The regions in which two gateways differ have the packets that they judge differently.
use Rattle.std.proofs.Common.{◌≡◌, Bool, true, false, not, ◌&&◌, ◌||◌, cond, List, [], ◌∷◌, ◌++◌, Option, Some, None, refl, sym, ap, ap₂, ◌∙◌}
use Rattle.std.specs.List.{flat_map, list_any}
use Rattle.std.specs.Option.{option_to_list}
use Rattle.std.proofs.Math.Bool.{or-false}
use Rattle.std.proofs.lemmas.Bool.{and_from, both_ways}
use Rattle.std.proofs.lemmas.List.Folds.{list_any-append}
use Rattle.sel_region.specs.Region.{some_has}
use Rattle.sel_box.specs.declared.any_box.AnyBox.{AnyBox}
use Rattle.sel_box.specs.declared.packet.Direction.TheVariants.{Outbound}
use Rattle.sel_box.specs.Boxes.{box_has}
use Rattle.sel_box.specs.Packet.{PacketFields, is_packet}
use Rattle.sel_box.specs.Point.{view_of}
use Rattle.sel_box.specs.SomePoint.{has_packet}
use Rattle.sel_box.proofs.BoxPackets.{has_packet-some}
use Rattle.spd_cut.specs.declared.entry.Entry.{Entry}
use Rattle.spd_line.specs.Agree.{same_judgement}
use Rattle.pair_gap.specs.GapRegions.{gap_region, gap_regions, regions_with, with_packet}
use Rattle.pair_gap.specs.LeastGap.{common_region}
use Rattle.pair_gap.proofs.LeastGaps.{both_have, common_region-packets, pair_differs, some_differs, some_differs_with}

any_of_flat_map : {X Y : Type 0} (test : Y → Bool) (f : X → List Y) (xs : List X) →
    list_any test (flat_map f xs) ≡ list_any (λ x. list_any test (f x)) xs
any_of_flat_map test f [] = refl
any_of_flat_map test f (x ∷ xs) =
    list_any-append test (f x) (flat_map f xs) ∙ ap (λ (rest : Bool). list_any test (f x) || rest) (any_of_flat_map test f xs)

any_alike : {X : Type 0} (t u : X → Bool) (xs : List X) → ((x : X) → t x ≡ u x) → list_any t xs ≡ list_any u xs
any_alike t u [] same = refl
any_alike t u (x ∷ xs) same = ap₂ (λ (a b : Bool). a || b) (same x) (any_alike t u xs same)

-- The region has the packet's outbound view.
abbrev sees : PacketFields → AnyBox → Bool
sees p region = box_has region (view_of Outbound p)

gap_region-has : (ours theirs : Entry) (p : PacketFields) → is_packet p ≡ true →
    list_any (sees p) (option_to_list (gap_region ours theirs)) ≡ pair_differs ours theirs p
gap_region-has ours theirs p packet =
    by_judgement (same_judgement ours.judgement theirs.judgement) (common_region ours theirs)
    ∙ ap (λ (here : Bool). not (same_judgement ours.judgement theirs.judgement) && here)
    (shown (is_packet p) _ packet ∙ common_region-packets ours theirs (common_region ours theirs) p refl)
  where
    shown : (here seen : Bool) → here ≡ true → seen ≡ (here && seen)
    shown true seen e = refl
    shown false seen e = absurd (let none : ⊥ = cc in none)

    by_packet : (region : AnyBox) (has : Bool) → has_packet region ≡ has →
        list_any (sees p) (option_to_list (cond has (Some region) None)) ≡ sees p region
    by_packet region true e = or-false (sees p region)
    by_packet region false e = go (sees p region) refl
      where
        go : (seen : Bool) → sees p region ≡ seen → false ≡ seen
        go true f = absurd (both_ways _ e ((has_packet-some region).1 (p, and_from _ _ packet f)))
        go false f = refl

    by_region : (common : Option AnyBox) →
        list_any (sees p) (option_to_list (with_packet common)) ≡ some_has box_has common (view_of Outbound p)
    by_region None = refl
    by_region (Some region) = by_packet region (has_packet region) refl

    by_judgement : (same : Bool) (common : Option AnyBox) →
        list_any (sees p) (option_to_list (cond same None (with_packet common))) ≡ (not same && some_has box_has common (view_of Outbound p))
    by_judgement true common = refl
    by_judgement false common = by_region common

pub gap_regions-have : (outbound inbound : List Entry) (p : PacketFields) → is_packet p ≡ true →
    list_any (sees p) (gap_regions outbound inbound) ≡ some_differs outbound inbound p
gap_regions-have outbound inbound p packet =
    any_of_flat_map (sees p) (λ ours. regions_with ours inbound) outbound
    ∙ any_alike _ (λ ours. some_differs_with ours inbound p) outbound
    (λ ours. any_of_flat_map (sees p) (λ theirs. option_to_list (gap_region ours theirs)) inbound
    ∙ any_alike _ (λ theirs. pair_differs ours theirs p) inbound (λ theirs. gap_region-has ours theirs p packet))

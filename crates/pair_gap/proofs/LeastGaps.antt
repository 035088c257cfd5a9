-- The least gap of pairs of entries is the least of the packets on which some pair differs.
use Rattle.std.proofs.Common.{◌≡◌, Bool, true, false, not, ◌&&◌, ◌||◌, cond, List, [], ◌∷◌, Option, Some, None, option_map, inl, inr, refl, sym, ap, ◌∙◌, arith}
use Rattle.std.specs.List.{list_any}
use Rattle.std.specs.Option.{option_and_then}
use Rattle.std.proofs.Math.Bool.{and-false, or-false, or_assoc}
use Rattle.std.proofs.lemmas.Bool.{both_ways, or_cases, or_from, or_left, or_right}
use Rattle.sel_region.specs.Interval.{range_has}
use Rattle.sel_region.specs.Region.{some_has}
use Rattle.sel_text.specs.declared.family.Family.TheVariants.{Four, Six}
use Rattle.sel_text.specs.Family.{same_family}
use Rattle.sel_box.specs.declared.any_box.AnyBox.{AnyBox}
use Rattle.sel_box.specs.declared.packet.Direction.TheVariants.{Outbound, Inbound}
use Rattle.sel_box.specs.Boxes.{Ranges, box_has, ranges_have, values_of}
use Rattle.sel_box.specs.LeastPacket.{HasNoPacket, IsLeastPacket, IsTotalOrder, is_packet_in, packet_at_most}
use Rattle.sel_box.specs.Packet.{PacketFields, is_packet}
use Rattle.sel_box.specs.Point.{PointFields, view_of}
use Rattle.sel_box.specs.Swap.{box_swapped, point_swapped, ranges_swapped}
use Rattle.sel_box.specs.laws.BoxLaws.{box_laws}
use Rattle.spd_cut.specs.declared.entry.Entry.{Entry}
use Rattle.spd_cut.specs.Entries.{entry_has}
use Rattle.spd_line.specs.Agree.{same_judgement}
use Rattle.pair_gap.specs.declared.gap.Gap.{Gap}
use Rattle.pair_gap.specs.LeastGap.{common_region, gap_at, gap_of, least_from, least_gap_of, least_with, lesser}
use Rattle.pair_gap.specs.LeastPacketOf.{least_packet_of}
use Rattle.pair_gap.proofs.LeastPackets.{least_packet_of-none, least_packet_of-some}

-- The gap's packet is the least that passes a test; where there is no gap, none passes.
abbrev pub LeastOf : (PacketFields → Bool) → Option Gap → Type 0
LeastOf test None = (p : PacketFields) → test p ≡ false
LeastOf test (Some gap) = (test gap.packet ≡ true) × ((p : PacketFields) → test p ≡ true → packet_at_most gap.packet p ≡ true)

-- Both entries have the packet.
abbrev pub both_have : Entry → Entry → PacketFields → Bool
both_have ours theirs p = is_packet p && (entry_has ours (view_of Outbound p) && entry_has theirs (view_of Inbound p))

-- And they are judged differently.
abbrev pub pair_differs : Entry → Entry → PacketFields → Bool
pair_differs ours theirs p = not (same_judgement ours.judgement theirs.judgement) && both_have ours theirs p

-- Some pair of entries differs on the packet.
abbrev pub some_differs_with : Entry → List Entry → PacketFields → Bool
some_differs_with ours inbound p = list_any (λ theirs. pair_differs ours theirs p) inbound

abbrev pub some_differs : List Entry → List Entry → PacketFields → Bool
some_differs outbound inbound p = list_any (λ ours. some_differs_with ours inbound p) outbound

and_exchanged : (f a b p c d : Bool) → (f && (a && (b && (p && (c && d))))) ≡ (f && (b && (a && (p && (d && c)))))
and_exchanged f a b p c d = grind arith

-- A box with its sides exchanged has the points whose sides exchanged the box has.
ranges_swapped-have : (family : Bool) (r : Ranges) (x : PointFields) →
    (family && ranges_have (ranges_swapped r) (values_of x)) ≡ (family && ranges_have r (values_of (point_swapped x)))
ranges_swapped-have family r x =
    and_exchanged family (range_has r.second.first x.local) (range_has r.first x.remote) (range_has r.second.second.first x.protocol)
    (range_has r.second.second.second.second x.local_field) (range_has r.second.second.second.first x.remote_field)

box_swapped-has : (b : AnyBox) (x : PointFields) → box_has (box_swapped b) x ≡ box_has b (point_swapped x)
box_swapped-has (AnyBox.Four r) x = ranges_swapped-have (same_family Four x.family) r x
box_swapped-has (AnyBox.Six r) x = ranges_swapped-have (same_family Six x.family) r x

common_region-has : (ours theirs : Entry) (x : PointFields) →
    some_has box_has (common_region ours theirs) x ≡ (entry_has ours x && entry_has theirs (point_swapped x))
common_region-has ours theirs x =
    box_laws.meet_has ours.region (box_swapped theirs.region) x
    ∙ ap (λ (here : Bool). entry_has ours x && here) (box_swapped-has theirs.region x)

-- So the packets of what both have in common are those that both have.
pub common_region-packets : (ours theirs : Entry) (common : Option AnyBox) (p : PacketFields) → common_region ours theirs ≡ common →
    (is_packet p && some_has box_has common (view_of Outbound p)) ≡ both_have ours theirs p
common_region-packets ours theirs common p is =
    ap (λ (r : Option AnyBox). is_packet p && some_has box_has r (view_of Outbound p)) (sym is)
    ∙ ap (λ (here : Bool). is_packet p && here) (common_region-has ours theirs (view_of Outbound p))

-- A pair.

pub gap_of-least : (ours theirs : Entry) → LeastOf (pair_differs ours theirs) (gap_of ours theirs)
gap_of-least ours theirs = by_judgement (same_judgement ours.judgement theirs.judgement)
  where
    by_packet : (region : AnyBox) → common_region ours theirs ≡ Some region → (found : Option PacketFields) →
        least_packet_of region ≡ found → LeastOf (both_have ours theirs) (option_map (gap_at ours theirs) found)
    by_packet region is (Some q) found =
        let least : IsLeastPacket region q = rw found at (least_packet_of-some region) in (
          sym (common_region-packets ours theirs (Some region) q is) ∙ least.found,
          λ p seen. least.least p (common_region-packets ours theirs (Some region) p is ∙ seen),
        )
    by_packet region is None found =
        let none : HasNoPacket region = rw found at (least_packet_of-none region) in
        λ p. sym (common_region-packets ours theirs (Some region) p is) ∙ none p

    by_region : (common : Option AnyBox) → common_region ours theirs ≡ common →
        LeastOf (both_have ours theirs) (option_map (gap_at ours theirs) (option_and_then least_packet_of common))
    by_region (Some region) is = by_packet region is (least_packet_of region) refl
    by_region None is = λ p. sym (common_region-packets ours theirs None p is) ∙ and-false (is_packet p)

    by_judgement : (same : Bool) →
        LeastOf (λ p. not same && both_have ours theirs p)
        (cond same None (option_map (gap_at ours theirs) (option_and_then least_packet_of (common_region ours theirs))))
    by_judgement true = λ p. refl
    by_judgement false = by_region (common_region ours theirs) refl

-- Two tests that pass alike.
LeastOf-alike : (t u : PacketFields → Bool) (best : Option Gap) → ((p : PacketFields) → t p ≡ u p) → LeastOf t best → LeastOf u best
LeastOf-alike t u None same least = λ p. sym (same p) ∙ least p
LeastOf-alike t u (Some gap) same least = (sym (same gap.packet) ∙ least.0, λ p passes. least.1 p (same p ∙ passes))

-- The lesser of two is the least of what passes either test.
LeastOf-lesser : IsTotalOrder packet_at_most → (t u : PacketFields → Bool) (best found : Option Gap) → LeastOf t best → LeastOf u found →
    LeastOf (λ p. t p || u p) (lesser best found)
LeastOf-lesser order t u None None none none' = λ p. or_from (t p) (u p) (none p) (none' p)
LeastOf-lesser order t u None (Some gap) none least = (
  or_right (t gap.packet) (u gap.packet) least.0,
  λ p passes. elim (or_cases (t p) (u p) passes) [
    | inl here ↦ absurd (both_ways _ (none p) here)
    | inr here ↦ least.1 p here
  ],
)
LeastOf-lesser order t u (Some gap) None least none = (
  or_left (t gap.packet) (u gap.packet) least.0,
  λ p passes. elim (or_cases (t p) (u p) passes) [
    | inl here ↦ least.1 p here
    | inr here ↦ absurd (both_ways _ (none p) here)
  ],
)
LeastOf-lesser order t u (Some best) (Some found) least least' = go (packet_at_most best.packet found.packet) refl
  where
    go : (first : Bool) → packet_at_most best.packet found.packet ≡ first → LeastOf (λ p. t p || u p) (Some (cond first best found))
    go true e = (
      or_left (t best.packet) (u best.packet) least.0,
      λ p passes. elim (or_cases (t p) (u p) passes) [
        | inl here ↦ least.1 p here
        | inr here ↦ order.transitive best.packet found.packet p e (least'.1 p here)
      ],
    )
    go false e =
        let other : packet_at_most found.packet best.packet ≡ true =
        elim (or_cases _ _ (order.total best.packet found.packet)) [
          | inl here ↦ absurd (both_ways _ e here)
          | inr here ↦ here
        ] in (
          or_right (t found.packet) (u found.packet) least'.0,
          λ p passes. elim (or_cases (t p) (u p) passes) [
            | inl here ↦ order.transitive found.packet best.packet p other (least.1 p here)
            | inr here ↦ least'.1 p here
          ],
        )

-- An entry with some of the peer's, and then all pairs.

LeastOf-with : IsTotalOrder packet_at_most → (t : PacketFields → Bool) (best : Option Gap) (ours : Entry) (inbound : List Entry) → LeastOf t best →
    LeastOf (λ p. t p || some_differs_with ours inbound p) (least_with best ours inbound)
LeastOf-with order t best ours [] least = LeastOf-alike t (λ p. t p || false) best (λ p. sym (or-false (t p))) least
LeastOf-with order t best ours (theirs ∷ rest) least =
    LeastOf-alike (λ p. (t p || pair_differs ours theirs p) || some_differs_with ours rest p)
    (λ p. t p || (pair_differs ours theirs p || some_differs_with ours rest p)) _
    (λ p. or_assoc (t p) (pair_differs ours theirs p) (some_differs_with ours rest p))
    (LeastOf-with order (λ p. t p || pair_differs ours theirs p) (lesser best (gap_of ours theirs)) ours rest
    (LeastOf-lesser order t (pair_differs ours theirs) best (gap_of ours theirs) least (gap_of-least ours theirs)))

LeastOf-from : IsTotalOrder packet_at_most → (t : PacketFields → Bool) (best : Option Gap) (outbound inbound : List Entry) → LeastOf t best →
    LeastOf (λ p. t p || some_differs outbound inbound p) (least_from best outbound inbound)
LeastOf-from order t best [] inbound least = LeastOf-alike t (λ p. t p || false) best (λ p. sym (or-false (t p))) least
LeastOf-from order t best (ours ∷ rest) inbound least =
    LeastOf-alike (λ p. (t p || some_differs_with ours inbound p) || some_differs rest inbound p)
    (λ p. t p || (some_differs_with ours inbound p || some_differs rest inbound p)) _
    (λ p. or_assoc (t p) (some_differs_with ours inbound p) (some_differs rest inbound p))
    (LeastOf-from order (λ p. t p || some_differs_with ours inbound p) (least_with best ours inbound) rest inbound
    (LeastOf-with order t best ours inbound least))

pub least_gap_of-least : IsTotalOrder packet_at_most → (outbound inbound : List Entry) →
    LeastOf (some_differs outbound inbound) (least_gap_of outbound inbound)
least_gap_of-least order outbound inbound = LeastOf-from order (λ p. false) None outbound inbound (λ p. refl)

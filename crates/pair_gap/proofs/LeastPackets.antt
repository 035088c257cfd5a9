-- The least packet of a box, as a function of it, is the least packet in it.
use Rattle.std.proofs.Common.{◌≡◌, Bool, true, false, cond, Option, Some, None, IfSome, IfNone, option_map, refl, ap}
use Rattle.std.proofs.lemmas.Bool.{and_parts, both_ways}
use Rattle.sel_box.specs.declared.any_box.AnyBox.{AnyBox}
use Rattle.sel_box.specs.declared.shown.Shown.{Shown}
use Rattle.sel_box.specs.Classes.{class_rows}
use Rattle.sel_box.specs.LeastPacket.{HasNoPacket, IsLeastPacket, is_packet_in}
use Rattle.sel_box.specs.Packet.{PacketFields}
use Rattle.sel_box.specs.SomePoint.{has_addresses, has_packet}
use Rattle.sel_box.specs.inner.Shown.{outbound_ranges, rows_show, shows_in}
use Rattle.sel_box.proofs.BoxPackets.{HasNoPacket-from_shown, IsLeastPacket-from_shown, has_packet-some}
use Rattle.sel_box.proofs.ClassRows.{class_rows-right}
use Rattle.sel_box.proofs.LeastShown.{HasNoneShown-from_rows, IsLeastShown-from_rows}
use Rattle.pair_gap.specs.LeastPacketOf.{least_packet_of, packet_showing}

-- A packet's addresses are at least those of its box, so these are addresses too.
has_addresses-from : (b : AnyBox) (p : PacketFields) → is_packet_in b p ≡ true → has_addresses b ≡ true
unfolding has_packet
has_addresses-from b p seen = (and_parts (has_addresses b) (shows_in (outbound_ranges b)) ((has_packet-some b).1 (p, seen))).0

no_addresses : (b : AnyBox) → has_addresses b ≡ false → HasNoPacket b
no_addresses b none p = go (is_packet_in b p) refl
  where
    go : (seen : Bool) → is_packet_in b p ≡ seen → seen ≡ false
    go true e = absurd (both_ways _ none (has_addresses-from b p e))
    go false e = refl

pub least_packet_of-some : (b : AnyBox) → IfSome (least_packet_of b) (IsLeastPacket b)
unfolding least_packet_of
least_packet_of-some b = go (has_addresses b) refl (rows_show (outbound_ranges b) class_rows) refl
  where
    go : (here : Bool) → has_addresses b ≡ here → (shown : Option Shown) → rows_show (outbound_ranges b) class_rows ≡ shown →
        IfSome (cond here (option_map (packet_showing (outbound_ranges b)) shown) None) (IsLeastPacket b)
    go true e (Some s) is = IsLeastPacket-from_shown b s e (IsLeastShown-from_rows (outbound_ranges b) class_rows s class_rows-right is)
    go true e None is = tt
    go false e shown is = tt

pub least_packet_of-none : (b : AnyBox) → IfNone (least_packet_of b) (HasNoPacket b)
unfolding least_packet_of
least_packet_of-none b = go (has_addresses b) refl (rows_show (outbound_ranges b) class_rows) refl
  where
    go : (here : Bool) → has_addresses b ≡ here → (shown : Option Shown) → rows_show (outbound_ranges b) class_rows ≡ shown →
        IfNone (cond here (option_map (packet_showing (outbound_ranges b)) shown) None) (HasNoPacket b)
    go true e (Some s) is = tt
    go true e None is = HasNoPacket-from_shown b (HasNoneShown-from_rows (outbound_ranges b) class_rows class_rows-right is)
    go false e shown is = no_addresses b e

-- What is the least packet of a box, or nothing where it has none, is what the function gives.
pub is_least_packet_of : (b : AnyBox) → ((p q : PacketFields) → IsLeastPacket b p → IsLeastPacket b q → p ≡ q) →
    (found : Option PacketFields) → IfSome found (IsLeastPacket b) → IfNone found (HasNoPacket b) → found ≡ least_packet_of b
is_least_packet_of b one found some none = go found (least_packet_of b) some none (least_packet_of-some b) (least_packet_of-none b)
  where
    go : (first second : Option PacketFields) → IfSome first (IsLeastPacket b) → IfNone first (HasNoPacket b) →
        IfSome second (IsLeastPacket b) → IfNone second (HasNoPacket b) → first ≡ second
    go None None _ _ _ _ = refl
    go None (Some q) some none some' none' = absurd (both_ways _ (none q) some'.found)
    go (Some p) None some none some' none' = absurd (both_ways _ (none' p) some.found)
    go (Some p) (Some q) some none some' none' = ap Some (one p q some some')

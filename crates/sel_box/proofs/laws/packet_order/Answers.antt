-- The order of packets, and the comparison that `Packet` derives.
use Rattle.std.proofs.Common.{◌≡◌, ℕ, Bool, nat_le, refl, arith}
use Rattle.std.proofs.lemmas.Bool.Decides.{nat_tests}
use Rattle.std.specs.Ordering.{is_le, nat_cmp, ordering_then}
use Rattle.std.specs.declared.cmp.Ordering.{Ordering}
use Rattle.sel_box.specs.contracts.packet.PacketOrd.TheImpl as packet_ord
use Rattle.sel_text.specs.declared.family.Family.{Family}
use Rattle.sel_text.specs.declared.family.Family.TheVariants.{Four, Six}
use Rattle.sel_box.specs.LeastPacket.{at_most_then, packet_at_most}
use Rattle.sel_box.specs.Packet.{PacketFields}
use Rattle.sel_box.proofs.PacketOrder.{packet_order}
use Rattle.sel_box.proofs.laws.packet_order.Goals as goal

compare_le : (m n : ℕ) → is_le (nat_cmp m n) ≡ nat_le m n
compare_le m n = grind (arith, nat_tests)

-- the lesser of two numbers, then the rest, as a comparison and as a test
then_le : (m n : ℕ) (order : Ordering) (rest : Bool) → is_le order ≡ rest →
    is_le (ordering_then (nat_cmp m n) order) ≡ at_most_then m n rest
then_le m n order rest same = grind (arith, nat_tests, same)

by_families : (P : Family → Family → Type 0) → P Four Four → P Four Six → P Six Four → P Six Six → (f g : Family) → P f g
by_families P four_four four_six six_four six_six Four Four = four_four
by_families P four_four four_six six_four six_six Four Six = four_six
by_families P four_four four_six six_four six_six Six Four = six_four
by_families P four_four four_six six_four six_six Six Six = six_six

values_compared : (p q : PacketFields) →
    is_le (ordering_then (nat_cmp p.source q.source)
    (ordering_then (nat_cmp p.destination q.destination)
    (ordering_then (nat_cmp p.protocol q.protocol)
    (ordering_then (nat_cmp p.source_field q.source_field)
    (nat_cmp p.destination_field q.destination_field)))))
    ≡ at_most_then p.source q.source
    (at_most_then p.destination q.destination
    (at_most_then p.protocol q.protocol
    (at_most_then p.source_field q.source_field
    (nat_le p.destination_field q.destination_field))))
values_compared p q =
    then_le p.source q.source _ _
    (then_le p.destination q.destination _ _
    (then_le p.protocol q.protocol _ _
    (then_le p.source_field q.source_field _ _
    (compare_le p.destination_field q.destination_field))))

pub returns-clause-order : goal.returns-clause-order
returns-clause-order c = packet_order

pub returns-clause-compared : goal.returns-clause-compared
returns-clause-compared c =
    λ p q.
    by_families (λ f g.
    is_le ((packet_ord.ghosts).cmp (record p { family = f }) (record q { family = g }))
    ≡ packet_at_most (record p { family = f }) (record q { family = g }))
    (values_compared p q) refl refl (values_compared p q) p.family q.family

pub returns-clause-one_least : goal.returns-clause-one_least
returns-clause-one_least c = λ b p q least other. packet_order.antisymmetric p q (least.least q other.found) (other.least p least.found)

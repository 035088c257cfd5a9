-- The order of packets is total: number by number, where two numbers are the same the rest decides.
use Rattle.std.proofs.Common.{◌≡◌, ℕ, Bool, true, false, ◌||◌, nat_le, refl, arith}
use Rattle.std.proofs.lemmas.Bool.Decides.{nat_tests}
use Rattle.sel_text.specs.declared.family.Family.{Family}
use Rattle.sel_text.specs.declared.family.Family.TheVariants.{Four, Six}
use Rattle.sel_box.specs.LeastPacket.{IsTotalOrder, at_most_then, packet_at_most, version_of}

then_reflexive : (m : ℕ) (rest : Bool) → rest ≡ true → at_most_then m m rest ≡ true
then_reflexive m rest e = grind (arith, nat_tests)

then_transitive : (k m n : ℕ) (below above both : Bool) → (below ≡ true → above ≡ true → both ≡ true) →
    at_most_then k m below ≡ true → at_most_then m n above ≡ true → at_most_then k n both ≡ true
then_transitive k m n true true both rest e f = let there : both ≡ true = rest refl refl in grind (arith, nat_tests)
then_transitive k m n true false both rest e f = grind (arith, nat_tests)
then_transitive k m n false true both rest e f = grind (arith, nat_tests)
then_transitive k m n false false both rest e f = grind (arith, nat_tests)

then_antisymmetric : (m n : ℕ) (below above : Bool) → at_most_then m n below ≡ true → at_most_then n m above ≡ true →
    (m ≡ n) × (below ≡ true) × (above ≡ true)
then_antisymmetric m n below above e f = (grind (arith, nat_tests), grind (arith, nat_tests), grind (arith, nat_tests))

then_total : (m n : ℕ) (below above : Bool) → (below || above) ≡ true → (at_most_then m n below || at_most_then n m above) ≡ true
then_total m n true above e = grind (arith, nat_tests)
then_total m n false true e = grind (arith, nat_tests)
then_total m n false false e = grind (arith, nat_tests)

le_transitive : (k m n : ℕ) → nat_le k m ≡ true → nat_le m n ≡ true → nat_le k n ≡ true
le_transitive k m n e f = grind (arith, nat_tests)

le_total : (m n : ℕ) → (nat_le m n || nat_le n m) ≡ true
le_total m n = grind (arith, nat_tests)

le_reflexive : (m : ℕ) → nat_le m m ≡ true
le_reflexive m = grind (arith, nat_tests)

le_antisymmetric : (m n : ℕ) → nat_le m n ≡ true → nat_le n m ≡ true → m ≡ n
le_antisymmetric m n e f = grind (arith, nat_tests)

family_from_version : (f g : Family) → version_of f ≡ version_of g → f ≡ g
family_from_version Four Four e = refl
family_from_version Four Six e = absurd (let none : ⊥ = omega (arith, e) in none)
family_from_version Six Four e = absurd (let none : ⊥ = omega (arith, e) in none)
family_from_version Six Six e = refl

pub packet_order : IsTotalOrder packet_at_most
packet_order = record {
  reflexive = λ p.
      then_reflexive (version_of p.family) _
      (then_reflexive p.source _
      (then_reflexive p.destination _
      (then_reflexive p.protocol _
      (then_reflexive p.source_field _ (le_reflexive p.destination_field)))));
  transitive = λ p q r.
      then_transitive (version_of p.family) (version_of q.family) (version_of r.family) _ _ _
      (then_transitive p.source q.source r.source _ _ _
      (then_transitive p.destination q.destination r.destination _ _ _
      (then_transitive p.protocol q.protocol r.protocol _ _ _
      (then_transitive p.source_field q.source_field r.source_field _ _ _ (le_transitive p.destination_field q.destination_field r.destination_field)))));
  antisymmetric = λ p q h k.
      let families = then_antisymmetric (version_of p.family) (version_of q.family) _ _ h k in
      let sources = then_antisymmetric p.source q.source _ _ families.1 families.2 in
      let destinations = then_antisymmetric p.destination q.destination _ _ sources.1 sources.2 in
      let protocols = then_antisymmetric p.protocol q.protocol _ _ destinations.1 destinations.2 in
      let fields = then_antisymmetric p.source_field q.source_field _ _ protocols.1 protocols.2 in
      let same_family = family_from_version p.family q.family families.0 in
      let same_field = le_antisymmetric p.destination_field q.destination_field fields.1 fields.2 in
      λ i. record {
        family = same_family i;
        source = sources.0 i;
        destination = destinations.0 i;
        protocol = protocols.0 i;
        source_field = fields.0 i;
        destination_field = same_field i;
      };
  total = λ p q.
      then_total (version_of p.family) (version_of q.family) _ _
      (then_total p.source q.source _ _
      (then_total p.destination q.destination _ _
      (then_total p.protocol q.protocol _ _
      (then_total p.source_field q.source_field _ _ (le_total p.destination_field q.destination_field)))));
}

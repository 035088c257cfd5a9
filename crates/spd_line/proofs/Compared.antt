-- Two judgements are the same by the test exactly where they are equal.
use Rattle.std.proofs.Common.{◌≡◌, true, refl, ap, ap₂, arith}
use Rattle.std.proofs.lemmas.Bool.{and_from, and_parts, eqb-true}
use Rattle.std.proofs.lemmas.Bool.Decides.{nat_tests}
use Rattle.sel_text.specs.declared.address.Address.{Address}
use Rattle.spd_line.specs.declared.action.Ipsec.{Ipsec}
use Rattle.spd_line.specs.declared.judgement.Carriage.{Carriage}
use Rattle.spd_line.specs.declared.judgement.Judgement.{Judgement}
use Rattle.spd_line.specs.Agree.{same_address, same_carriage, same_ipsec, same_judgement}

same_address-refl : (a : Address) → same_address a a ≡ true
same_address-refl (Address.Four n) = grind (arith, nat_tests)
same_address-refl (Address.Six n) = grind (arith, nat_tests)

same_address-equal : (a b : Address) → same_address a b ≡ true → a ≡ b
same_address-equal (Address.Four m) (Address.Four n) same = ap Address.Four (eqb-true m n same)
same_address-equal (Address.Six m) (Address.Six n) same = ap Address.Six (eqb-true m n same)
same_address-equal (Address.Four m) (Address.Six n) same = cc
same_address-equal (Address.Six m) (Address.Four n) same = cc

same_ipsec-refl : (a : Ipsec) → same_ipsec a a ≡ true
same_ipsec-refl Ipsec.Esp = refl
same_ipsec-refl Ipsec.Ah = refl

same_ipsec-equal : (a b : Ipsec) → same_ipsec a b ≡ true → a ≡ b
same_ipsec-equal Ipsec.Esp Ipsec.Esp same = refl
same_ipsec-equal Ipsec.Ah Ipsec.Ah same = refl
same_ipsec-equal Ipsec.Esp Ipsec.Ah same = cc
same_ipsec-equal Ipsec.Ah Ipsec.Esp same = cc

same_carriage-refl : (a : Carriage) → same_carriage a a ≡ true
same_carriage-refl Carriage.Transport = refl
same_carriage-refl (Carriage.Tunnel first second) = and_from _ _ (same_address-refl first) (same_address-refl second)

same_carriage-equal : (a b : Carriage) → same_carriage a b ≡ true → a ≡ b
same_carriage-equal Carriage.Transport Carriage.Transport same = refl
same_carriage-equal (Carriage.Tunnel first second) (Carriage.Tunnel first' second') same =
    let parts = and_parts (same_address first first') (same_address second second') same in
    ap₂ Carriage.Tunnel (same_address-equal first first' parts.0) (same_address-equal second second' parts.1)
same_carriage-equal Carriage.Transport (Carriage.Tunnel first second) same = cc
same_carriage-equal (Carriage.Tunnel first second) Carriage.Transport same = cc

pub same_judgement-refl : (a : Judgement) → same_judgement a a ≡ true
same_judgement-refl Judgement.Discard = refl
same_judgement-refl Judgement.Bypass = refl
same_judgement-refl (Judgement.Protect ipsec carriage) = and_from _ _ (same_ipsec-refl ipsec) (same_carriage-refl carriage)

pub same_judgement-equal : (a b : Judgement) → same_judgement a b ≡ true → a ≡ b
same_judgement-equal Judgement.Discard Judgement.Discard same = refl
same_judgement-equal Judgement.Bypass Judgement.Bypass same = refl
same_judgement-equal (Judgement.Protect ipsec carriage) (Judgement.Protect ipsec' carriage') same =
    let parts = and_parts (same_ipsec ipsec ipsec') (same_carriage carriage carriage') same in
    ap₂ Judgement.Protect (same_ipsec-equal ipsec ipsec' parts.0) (same_carriage-equal carriage carriage' parts.1)
same_judgement-equal Judgement.Discard Judgement.Bypass same = cc
same_judgement-equal Judgement.Discard (Judgement.Protect ipsec carriage) same = cc
same_judgement-equal Judgement.Bypass Judgement.Discard same = cc
same_judgement-equal Judgement.Bypass (Judgement.Protect ipsec carriage) same = cc
same_judgement-equal (Judgement.Protect ipsec carriage) Judgement.Discard same = cc
same_judgement-equal (Judgement.Protect ipsec carriage) Judgement.Bypass same = cc

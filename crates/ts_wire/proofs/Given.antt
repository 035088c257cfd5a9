-- What the lines of a proposal give.
use Rattle.std.proofs.Common.{◌≡◌, ℕ, List, [], ◌∷◌, length, Result, Ok, Err, refl, ap, ◌∙◌}
use Rattle.ts_payload.specs.declared.selector.Ts.{Ts}
use Rattle.ts_wire.specs.declared.fault.ProposalFault.{ProposalFault}
use Rattle.ts_wire.specs.declared.fault.ProposalFault.TheVariants.{Lines}
use Rattle.ts_wire.specs.Proposal.{both_payloads, line_payload, lines_give, proposal_of, texts_of}

not_two : (texts : List (List ℕ)) → (length texts ≡ 2 → ⊥) → lines_give texts ≡ Err Lines
not_two [] h = refl
not_two (first ∷ []) h = refl
not_two (first ∷ second ∷ []) h = absurd (h refl)
not_two (first ∷ second ∷ third ∷ more) h = refl

pub proposal_of-lines : (bytes : List ℕ) → (length (texts_of bytes) ≡ 2 → ⊥) → proposal_of bytes ≡ Err Lines
unfolding proposal_of
proposal_of-lines bytes h = not_two (texts_of bytes) h

proposal_of-two : (bytes tsi tsr : List ℕ) → texts_of bytes ≡ tsi ∷ tsr ∷ [] → proposal_of bytes ≡ both_payloads (line_payload 1 tsi) (line_payload 2 tsr)
unfolding proposal_of
proposal_of-two bytes tsi tsr h = ap lines_give h

pub proposal_of-first : (bytes tsi tsr : List ℕ) (fault : ProposalFault) → texts_of bytes ≡ tsi ∷ tsr ∷ []
    → line_payload 1 tsi ≡ Err fault → proposal_of bytes ≡ Err fault
proposal_of-first bytes tsi tsr fault h first =
    proposal_of-two bytes tsi tsr h ∙ ap (λ (r : Result (List Ts) ProposalFault). both_payloads r (line_payload 2 tsr)) first

pub proposal_of-second : (bytes tsi tsr : List ℕ) (list : List Ts) (fault : ProposalFault) → texts_of bytes ≡ tsi ∷ tsr ∷ []
    → line_payload 1 tsi ≡ Ok list → line_payload 2 tsr ≡ Err fault → proposal_of bytes ≡ Err fault
proposal_of-second bytes tsi tsr list fault h first second =
    proposal_of-two bytes tsi tsr h
    ∙ (ap (λ (r : Result (List Ts) ProposalFault). both_payloads r (line_payload 2 tsr)) first
    ∙ ap (λ (r : Result (List Ts) ProposalFault). both_payloads (Ok list) r) second)

pub proposal_of-both : (bytes tsi tsr : List ℕ) (list other : List Ts) → texts_of bytes ≡ tsi ∷ tsr ∷ []
    → line_payload 1 tsi ≡ Ok list → line_payload 2 tsr ≡ Ok other → proposal_of bytes ≡ Ok (record { tsi = list; tsr = other })
proposal_of-both bytes tsi tsr list other h first second =
    proposal_of-two bytes tsi tsr h
    ∙ (ap (λ (r : Result (List Ts) ProposalFault). both_payloads r (line_payload 2 tsr)) first
    ∙ ap (λ (r : Result (List Ts) ProposalFault). both_payloads (Ok list) r) second)

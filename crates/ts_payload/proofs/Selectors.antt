-- Reading selectors one after another: what comes of it, and that pieces are read as they stand.
use Rattle.std.proofs.Common.{◌≡◌, ℕ, zero, suc, ◌+◌, ◌<◌, true, List, [], ◌∷◌, ◌++◌, length, Option, Some, None, Result, Ok, Err, refl, sym, ap}
use Rattle.std.proofs.Common.{◌∙◌, append_assoc, arith, ◌⊎◌, inl, inr}
use Rattle.std.specs.Option.{option_to_list}
use Rattle.std.specs.List.{concat, cons_option, filter_map, list_all}
use Rattle.std.proofs.lemmas.Bool.{and_from, and_parts, ne_eqb}
use Rattle.ts_payload.specs.declared.selector.Ts.{Ts}
use Rattle.ts_payload.specs.declared.fault.TsFault.{TsFault}
use Rattle.ts_payload.specs.declared.fault.TsFault.TheVariants.{CountMismatch}
use Rattle.ts_payload.specs.Piece.{behind_piece, first_piece, is_piece, next_fault, selector_in}
use Rattle.ts_payload.specs.Payload.{BeginsWith}
use Rattle.ts_payload.specs.Reading.{selectors_of, unless_fault, with_front}
use Rattle.ts_payload.proofs.Pieces.{behind_piece-front, first_piece-front, first_piece-parts, front-parts, next_fault-front, piece_from, piece_parts}

pub with_front-nil : (read : Result (List Ts) TsFault) → with_front [] read ≡ read
with_front-nil (Ok selectors) = refl
with_front-nil (Err fault) = refl

pub with_front-append : (a b : List Ts) (read : Result (List Ts) TsFault) → with_front a (with_front b read) ≡ with_front (a ++ b) read
with_front-append a b (Ok selectors) = ap Ok (sym (append_assoc a b selectors))
with_front-append a b (Err fault) = refl

onto : (first : Option Ts) (others : List Ts) → option_to_list first ++ others ≡ cons_option first others
onto None others = refl
onto (Some selector) others = refl

-- one step of reading
pub selectors_of-fault : (count index : ℕ) (bytes : List ℕ) (fault : TsFault) → next_fault index bytes ≡ Some fault
    → selectors_of (suc count) index bytes ≡ Err fault
unfolding selectors_of
selectors_of-fault count index bytes fault h =
    ap (λ (o : Option TsFault). unless_fault o (with_front (option_to_list (selector_in (first_piece bytes))) (selectors_of count (index + 1)
    (behind_piece bytes)))) h

pub selectors_of-step : (count index : ℕ) (bytes : List ℕ) → next_fault index bytes ≡ None
    → selectors_of (suc count) index bytes
    ≡ with_front (option_to_list (selector_in (first_piece bytes))) (selectors_of count (index + 1) (behind_piece bytes))
unfolding selectors_of
selectors_of-step count index bytes h =
    ap (λ (o : Option TsFault). unless_fault o (with_front (option_to_list (selector_in (first_piece bytes))) (selectors_of count (index + 1)
    (behind_piece bytes)))) h

selectors_of-piece : (count index : ℕ) (piece rest : List ℕ) → is_piece piece ≡ true
    → selectors_of (suc count) index (piece ++ rest) ≡ with_front (option_to_list (selector_in piece)) (selectors_of count (index + 1) rest)
selectors_of-piece count index piece rest h =
    let p = piece_parts piece h in
    selectors_of-step count index (piece ++ rest) (next_fault-front index piece rest p)
    ∙ (ap (λ (xs : List ℕ). with_front (option_to_list (selector_in xs)) (selectors_of count (index + 1) (behind_piece (piece ++ rest))))
    (first_piece-front piece rest p)
    ∙ ap (λ (xs : List ℕ). with_front (option_to_list (selector_in piece)) (selectors_of count (index + 1) xs)) (behind_piece-front piece rest p))

pub selectors_of-nothing : (index : ℕ) → selectors_of 0 index [] ≡ Ok []
unfolding selectors_of
selectors_of-nothing index = refl

pub selectors_of-left : (index byte : ℕ) (bytes : List ℕ) → selectors_of 0 index (byte ∷ bytes) ≡ Err CountMismatch
unfolding selectors_of
selectors_of-left index byte bytes = rw (ne_eqb (suc (length bytes)) 0 (λ e. omega arith)) refl

-- pieces at the front are read as they stand
pub selectors_of-pieces : (pieces : List (List ℕ)) (count more index : ℕ) (rest : List ℕ) → list_all is_piece pieces ≡ true
    → count ≡ more + length pieces
    → selectors_of count index (concat pieces ++ rest)
    ≡ with_front (filter_map selector_in pieces) (selectors_of more (index + length pieces) rest)
selectors_of-pieces [] count more index rest h e =
    let k : count ≡ more = omega arith in
    let i : index ≡ index + 0 = omega arith in
    ap (λ (n : ℕ). selectors_of n index rest) k ∙ (ap (λ (n : ℕ). selectors_of more n rest) i ∙ sym (with_front-nil (selectors_of more (index + 0) rest)))
selectors_of-pieces (piece ∷ pieces) count more index rest h e =
    let parts = and_parts (is_piece piece) (list_all is_piece pieces) h in
    let k : count ≡ suc (more + length pieces) = omega arith in
    let i : index + 1 + length pieces ≡ index + suc (length pieces) = omega arith in
    ap (λ (n : ℕ). selectors_of n index ((piece ++ concat pieces) ++ rest)) k
    ∙ (ap (λ (xs : List ℕ). selectors_of (suc (more + length pieces)) index xs) (append_assoc piece (concat pieces) rest)
    ∙ (selectors_of-piece (more + length pieces) index piece (concat pieces ++ rest) parts.0
    ∙ (ap (λ (r : Result (List Ts) TsFault). with_front (option_to_list (selector_in piece)) r)
    (selectors_of-pieces pieces (more + length pieces) more (index + 1) rest parts.1 refl)
    ∙ (with_front-append (option_to_list (selector_in piece)) (filter_map selector_in pieces) (selectors_of more (index + 1 + length pieces) rest)
    ∙ (ap (λ (front : List Ts). with_front front (selectors_of more (index + 1 + length pieces) rest)) (onto (selector_in piece)
    (filter_map selector_in pieces))
    ∙ ap (λ (n : ℕ). with_front (cons_option (selector_in piece) (filter_map selector_in pieces)) (selectors_of more n rest)) i)))))

-- what comes of reading so many: pieces and nothing else, or pieces up to a fault
pub record Read (count index : ℕ) (bytes : List ℕ) (pieces : List (List ℕ)) : Type 0 where
  pub all : length pieces ≡ count
  pub before : BeginsWith bytes pieces []
  pub given : selectors_of count index bytes ≡ Ok (filter_map selector_in pieces)

pub record Refused (count index : ℕ) (bytes : List ℕ) (pieces : List (List ℕ)) (rest : List ℕ) (fault : TsFault) : Type 0 where
  pub before : BeginsWith bytes pieces rest
  pub given : selectors_of count index bytes ≡ Err fault
  pub here : ((length pieces < count) × (next_fault (index + length pieces) rest ≡ Some fault))
      ⊎ ((length pieces ≡ count) × (0 < length rest) × (fault ≡ CountMismatch))

pub data Comes (count index : ℕ) (bytes : List ℕ) : Type 0 where
  read : (pieces : List (List ℕ)) → Read count index bytes pieces → Comes count index bytes
  refused : (pieces : List (List ℕ)) (rest : List ℕ) (fault : TsFault) → Refused count index bytes pieces rest fault → Comes count index bytes

begins_nil : (bytes : List ℕ) → BeginsWith bytes [] bytes
begins_nil bytes = record { parts = refl; each = refl }

begins_cons : (index : ℕ) (bytes : List ℕ) (pieces : List (List ℕ)) (rest : List ℕ) → next_fault index bytes ≡ None
    → BeginsWith (behind_piece bytes) pieces rest → BeginsWith bytes (first_piece bytes ∷ pieces) rest
begins_cons index bytes pieces rest h b = record {
  parts = sym (front-parts bytes) ∙ (ap (λ (xs : List ℕ). first_piece bytes ++ xs) b.parts ∙ sym (append_assoc (first_piece bytes) (concat pieces) rest));
  each = and_from (is_piece (first_piece bytes)) (list_all is_piece pieces) (piece_from (first_piece bytes) (first_piece-parts index bytes h)) b.each;
}

one_more : (count index : ℕ) (bytes : List ℕ) → next_fault index bytes ≡ None → Comes count (index + 1) (behind_piece bytes)
    → Comes (suc count) index bytes
one_more count index bytes h (read pieces r) =
    read (first_piece bytes ∷ pieces) (record {
      all = ap (λ (n : ℕ). suc n) r.all;
      before = begins_cons index bytes pieces [] h r.before;
      given = selectors_of-step count index bytes h
          ∙ (ap (λ (x : Result (List Ts) TsFault). with_front (option_to_list (selector_in (first_piece bytes))) x) r.given
          ∙ ap Ok (onto (selector_in (first_piece bytes)) (filter_map selector_in pieces)));
    })
one_more count index bytes h (refused pieces rest fault r) =
    let i : index + 1 + length pieces ≡ index + suc (length pieces) = omega arith in
    refused (first_piece bytes ∷ pieces) rest fault (record {
      before = begins_cons index bytes pieces rest h r.before;
      given = selectors_of-step count index bytes h
          ∙ ap (λ (x : Result (List Ts) TsFault). with_front (option_to_list (selector_in (first_piece bytes))) x) r.given;
      here = elim r.here [
        | inl f ↦ inl (let lt = f.0 in omega arith, ap (λ (n : ℕ). next_fault n rest) (sym i) ∙ f.1)
        | inr f ↦ inr (ap (λ (n : ℕ). suc n) f.0, f.1, f.2)
      ];
    })

comes_next : (count index : ℕ) (bytes : List ℕ) (fault : Option TsFault) → next_fault index bytes ≡ fault
    → Comes count (index + 1) (behind_piece bytes) → Comes (suc count) index bytes
comes_next count index bytes None h c = one_more count index bytes h c
comes_next count index bytes (Some fault) h c =
    let i : index + 0 ≡ index = omega arith in
    refused [] bytes fault (record {
      before = begins_nil bytes;
      given = selectors_of-fault count index bytes fault h;
      here = inl (omega arith, ap (λ (n : ℕ). next_fault n bytes) i ∙ h);
    })

pub comes : (count index : ℕ) (bytes : List ℕ) → Comes count index bytes
comes zero index [] = read [] (record { all = refl; before = begins_nil []; given = selectors_of-nothing index })
comes zero index (byte ∷ bytes) =
    refused [] (byte ∷ bytes) CountMismatch (record {
      before = begins_nil (byte ∷ bytes);
      given = selectors_of-left index byte bytes;
      here = inr (refl, omega arith, refl);
    })
comes (suc count) index bytes = comes_next count index bytes (next_fault index bytes) refl (comes count (index + 1) (behind_piece bytes))

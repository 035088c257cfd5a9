-- A payload by its fields and lengths is one that is read, and its first fault the one that is answered.
use Rattle.std.proofs.Common.{◌≡◌, ℕ, suc, ◌+◌, ◌-◌, ◌<◌, ◌≤◌, List, [], ◌∷◌, length, drop, Result, Ok, Err, refl, sym, ap, subst, ◌∙◌}
use Rattle.std.proofs.Common.{arith, inl, inr}
use Rattle.std.specs.Prelude.{◌≢◌, IfOk, IfErr}
use Rattle.std.specs.List.{filter_map}
use Rattle.std.proofs.lemmas.Bool.{cases_eq, cases_lt, eq-eqb, le-leb, le-ltb, lt-leb, lt-ltb, ne_eqb}
use Rattle.std.proofs.lemmas.List.{append-nil}
use Rattle.ts_payload.specs.declared.selector.Ts.{Ts}
use Rattle.ts_payload.specs.declared.fault.TsFault.{TsFault}
use Rattle.ts_payload.specs.declared.fault.TsFault.TheVariants.{Short, LengthMismatch, TooMany, CountMismatch, NoMemory}
use Rattle.ts_payload.specs.Piece.{next_fault, selector_in}
use Rattle.ts_payload.specs.Payload.{HasHeader, IsFirstFault, IsPayload, IsPayloadFault, payload_length, selector_count}
use Rattle.ts_payload.specs.Payload.IsFirstFault.{at_selector, left_over}
use Rattle.ts_payload.specs.Payload.IsPayloadFault.{short, length_mismatch, too_many, among_selectors}
use Rattle.ts_payload.specs.Reading.{payload_of, selectors_of, with_front}
use Rattle.ts_payload.proofs.Selectors.{Comes, comes, read, refused, selectors_of-fault, selectors_of-left, selectors_of-nothing}
use Rattle.ts_payload.proofs.Selectors.{selectors_of-pieces}

-- ---- the header's tests

payload_of-short : (bytes : List ℕ) → length bytes < 8 → payload_of bytes ≡ Err Short
unfolding payload_of
payload_of-short bytes h = rw (lt-ltb (length bytes) 8 h) refl

payload_of-length : (bytes : List ℕ) → 8 ≤ length bytes → (payload_length bytes ≡ length bytes → ⊥) → payload_of bytes ≡ Err LengthMismatch
unfolding payload_of
payload_of-length bytes long other = rw (le-ltb (length bytes) 8 long, ne_eqb (payload_length bytes) (length bytes) other) refl

payload_of-many : (bytes : List ℕ) → HasHeader bytes → 127 < selector_count bytes → payload_of bytes ≡ Err TooMany
unfolding payload_of
payload_of-many bytes header many =
    rw (le-ltb (length bytes) 8 header.whole, eq-eqb (payload_length bytes) (length bytes) header.own_length, lt-leb (selector_count bytes) 127 many) refl

payload_of-selectors : (bytes : List ℕ) → HasHeader bytes → selector_count bytes ≤ 127
    → payload_of bytes ≡ selectors_of (selector_count bytes) 1 (drop 8 bytes)
unfolding payload_of
payload_of-selectors bytes header few =
    rw (le-ltb (length bytes) 8 header.whole, eq-eqb (payload_length bytes) (length bytes) header.own_length, le-leb (selector_count bytes) 127 few) refl

-- ---- what is a payload is read

pub payload-read : (bytes : List ℕ) (selectors : List Ts) → IsPayload bytes selectors → payload_of bytes ≡ Ok selectors
payload-read bytes selectors p =
    let count : selector_count bytes ≡ 0 + length p.pieces = let e = p.count in omega arith in
    payload_of-selectors bytes p.header p.few
    ∙ (ap (λ (xs : List ℕ). selectors_of (selector_count bytes) 1 xs) p.body.parts
    ∙ (selectors_of-pieces p.pieces (selector_count bytes) 0 1 [] p.body.each count
    ∙ (ap (λ (r : Result (List Ts) TsFault). with_front (filter_map selector_in p.pieces) r) (selectors_of-nothing (1 + length p.pieces))
    ∙ (ap Ok (append-nil (filter_map selector_in p.pieces)) ∙ ap Ok (sym p.read)))))

-- ---- what has a fault is refused

cons-left : (index : ℕ) (rest : List ℕ) → 0 < length rest → selectors_of 0 index rest ≡ Err CountMismatch
cons-left index [] h = absurd (omega arith)
cons-left index (byte ∷ bytes) h = selectors_of-left index byte bytes

first_fault-refused : (count : ℕ) (bytes : List ℕ) (fault : TsFault) → IsFirstFault count bytes fault → selectors_of count 1 bytes ≡ Err fault
first_fault-refused count bytes fault (at_selector _ _ _ pieces rest b less h) =
    let more = count - length pieces - 1 in
    let e : count ≡ suc more + length pieces = omega arith in
    let i : length pieces + 1 ≡ 1 + length pieces = omega arith in
    ap (λ (xs : List ℕ). selectors_of count 1 xs) b.parts
    ∙ (selectors_of-pieces pieces count (suc more) 1 rest b.each e
    ∙ ap (λ (r : Result (List Ts) TsFault). with_front (filter_map selector_in pieces) r)
    (selectors_of-fault more (1 + length pieces) rest fault (ap (λ (n : ℕ). next_fault n rest) (sym i) ∙ h)))
first_fault-refused count bytes fault (left_over _ _ pieces rest b all more) =
    let e : count ≡ 0 + length pieces = omega arith in
    ap (λ (xs : List ℕ). selectors_of count 1 xs) b.parts
    ∙ (selectors_of-pieces pieces count 0 1 rest b.each e
    ∙ ap (λ (r : Result (List Ts) TsFault). with_front (filter_map selector_in pieces) r) (cons-left (1 + length pieces) rest more))

pub fault-refused : (bytes : List ℕ) (fault : TsFault) → IsPayloadFault bytes fault → payload_of bytes ≡ Err fault
fault-refused bytes fault (short _ h) = payload_of-short bytes h
fault-refused bytes fault (length_mismatch _ long other) = payload_of-length bytes long other
fault-refused bytes fault (too_many _ header many) = payload_of-many bytes header many
fault-refused bytes fault (among_selectors _ _ header few first) =
    payload_of-selectors bytes header few ∙ first_fault-refused (selector_count bytes) (drop 8 bytes) fault first

-- ---- each answer has its cause

pub data IsDecided (bytes : List ℕ) : Type 0 where
  payload : (selectors : List Ts) → payload_of bytes ≡ Ok selectors → IsPayload bytes selectors → IsDecided bytes
  fault : (fault : TsFault) → payload_of bytes ≡ Err fault → IsPayloadFault bytes fault → IsDecided bytes

decided_selectors : (bytes : List ℕ) → HasHeader bytes → selector_count bytes ≤ 127
    → Comes (selector_count bytes) 1 (drop 8 bytes) → IsDecided bytes
decided_selectors bytes header few (read pieces r) =
    payload (filter_map selector_in pieces) (payload_of-selectors bytes header few ∙ r.given)
    (record { header = header; pieces = pieces; count = r.all; few = few; body = r.before; read = refl })
decided_selectors bytes header few (refused pieces rest found r) =
    let given = payload_of-selectors bytes header few ∙ r.given in
    let i : 1 + length pieces ≡ length pieces + 1 = omega arith in
    elim r.here [
      | inl f ↦
          fault found given
          (among_selectors bytes found header few
          (at_selector (selector_count bytes) (drop 8 bytes) found pieces rest r.before f.0 (ap (λ (n : ℕ). next_fault n rest) (sym i) ∙ f.1)))
      | inr f ↦
          let e : found ≡ CountMismatch = f.2 in
          let left = left_over (selector_count bytes) (drop 8 bytes) pieces rest r.before f.0 f.1 in
          fault CountMismatch (given ∙ ap Err e) (among_selectors bytes CountMismatch header few left)
    ]

decided_header : (bytes : List ℕ) → HasHeader bytes → IsDecided bytes
decided_header bytes header =
    elim (cases_lt 127 (selector_count bytes)) [
      | inl many ↦ fault TooMany (payload_of-many bytes header many) (too_many bytes header many)
      | inr few ↦ decided_selectors bytes header few (comes (selector_count bytes) 1 (drop 8 bytes))
    ]

pub decided : (bytes : List ℕ) → IsDecided bytes
decided bytes =
    elim (cases_lt (length bytes) 8) [
      | inl less ↦ fault Short (payload_of-short bytes less) (short bytes less)
      | inr long ↦
          elim (cases_eq (payload_length bytes) (length bytes)) [
            | inl own ↦ decided_header bytes (record { whole = long; own_length = own })
            | inr other ↦ fault LengthMismatch (payload_of-length bytes long other) (length_mismatch bytes long other)
          ]
    ]

is_payload : (bytes : List ℕ) (selectors : List Ts) → payload_of bytes ≡ Ok selectors → IsDecided bytes → IsPayload bytes selectors
is_payload bytes selectors h (payload found given p) =
    let e : found ≡ selectors = cc (sym given ∙ h) in
    subst (λ (xs : List Ts). IsPayload bytes xs) e p
is_payload bytes selectors h (fault found given p) = absurd (cc (sym given ∙ h))

is_fault : (bytes : List ℕ) (found : TsFault) → payload_of bytes ≡ Err found → IsDecided bytes → IsPayloadFault bytes found
is_fault bytes found h (payload selectors given p) = absurd (cc (sym given ∙ h))
is_fault bytes found h (fault other given p) =
    let e : other ≡ found = cc (sym given ∙ h) in
    subst (λ (f : TsFault). IsPayloadFault bytes f) e p

pub read-payload : (bytes : List ℕ) (selectors : List Ts) → payload_of bytes ≡ Ok selectors → IsPayload bytes selectors
read-payload bytes selectors h = is_payload bytes selectors h (decided bytes)

pub refused-fault : (bytes : List ℕ) (found : TsFault) → payload_of bytes ≡ Err found → IsPayloadFault bytes found
refused-fault bytes found h = is_fault bytes found h (decided bytes)

pub one_list : (bytes : List ℕ) (list other : List Ts) → IsPayload bytes list → IsPayload bytes other → list ≡ other
one_list bytes list other p q = cc (sym (payload-read bytes list p) ∙ payload-read bytes other q)

-- ---- an answer of a call, and its cause

pub answers_payload : (bytes : List ℕ) (answer : Result (List Ts) TsFault) → IfOk answer (λ list. payload_of bytes ≡ Ok list)
    → IfOk answer (λ list. IsPayload bytes list)
answers_payload bytes (Ok list) h = read-payload bytes list h
answers_payload bytes (Err found) h = tt

pub answers_fault : (bytes : List ℕ) (answer : Result (List Ts) TsFault) → IfErr answer (λ found. found ≢ NoMemory → payload_of bytes ≡ Err found)
    → IfErr answer (λ found. found ≢ NoMemory → IsPayloadFault bytes found)
answers_fault bytes (Ok list) h = tt
answers_fault bytes (Err found) h = λ other. refused-fault bytes found (h other)

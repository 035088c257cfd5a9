-- The selectors of a proposal are ones that payloads can have: two digits write a byte, and the values of a selector are
-- numbers of so many bytes.
use Rattle.std.proofs.Common.{◌≡◌, ℕ, zero, suc, ◌+◌, ◌*◌, ◌^◌, ◌<◌, ◌≤◌, Bool, true, false, cond, eqb, leb}
use Rattle.std.proofs.Common.{List, [], ◌∷◌, ◌++◌, length, take, drop, Option, Some, None, Result, Ok, Err}
use Rattle.std.proofs.Common.{refl, sym, subst, arith, lit<, lit≤}
use Rattle.std.specs.Prelude.{IfSome}
use Rattle.std.specs.List.{concat, cons_option, filter_map, list_all}
use Rattle.std.proofs.Math.Nat.{pow-le-pow_right}
use Rattle.std.proofs.lemmas.Bool.{and_from, and_parts, le-leb}
use Rattle.std.proofs.lemmas.List.{length-take, take-append-drop}
use Rattle.hex.specs.declared.error.FromHexError.{FromHexError}
use Rattle.hex.specs.Hex.{decode_of, IsBytes}
use Rattle.hex.proofs.HexLemmas.{decode_of-ok}
use Rattle.sel_text.specs.declared.family.Family.{Family}
use Rattle.sel_text.specs.declared.family.Family.TheVariants.{Four, Six}
use Rattle.sel_text.specs.Family.{last_address}
use Rattle.ts_payload.specs.declared.fault.TsFault.{TsFault}
use Rattle.ts_payload.specs.declared.selector.Ts.{Ts}
use Rattle.ts_payload.specs.Number.{number_at, number_behind, number_of}
use Rattle.ts_payload.specs.Piece.{is_piece, piece_keeps_rules, selector_in, type_in, values_in}
use Rattle.ts_payload.specs.Reading.{payload_of}
use Rattle.ts_payload.specs.Selector.{AreSelectors, fits_bytes, is_selector, keeps_rules}
use Rattle.ts_payload.proofs.Numbers.{next_below}
use Rattle.ts_payload.proofs.Payloads.{read-payload}
use Rattle.ts_payload.proofs.Pieces.{piece_parts}
use Rattle.ts_wire.specs.declared.fault.ProposalFault.{ProposalFault}
use Rattle.ts_wire.specs.declared.proposal.Proposal.{Proposal}
use Rattle.ts_wire.specs.Proposal.{both_payloads, line_payload, lines_give, of_digits, of_line, proposal_of, texts_of}

-- ---- parts of bytes

IsBytes-front : (xs ys : List ℕ) → IsBytes (xs ++ ys) → IsBytes xs
IsBytes-front [] ys are i = omega arith
IsBytes-front (x ∷ xs) ys are zero = are 0
IsBytes-front (x ∷ xs) ys are (suc i) = IsBytes-front xs ys (λ k. are (suc k)) i

IsBytes-behind : (xs ys : List ℕ) → IsBytes (xs ++ ys) → IsBytes ys
IsBytes-behind [] ys are = are
IsBytes-behind (x ∷ xs) ys are = IsBytes-behind xs ys (λ k. are (suc k))

IsBytes-take : (n : ℕ) (bytes : List ℕ) → IsBytes bytes → IsBytes (take n bytes)
IsBytes-take n bytes are = IsBytes-front (take n bytes) (drop n bytes) (subst IsBytes (sym (take-append-drop n bytes)) are)

IsBytes-drop : (n : ℕ) (bytes : List ℕ) → IsBytes bytes → IsBytes (drop n bytes)
IsBytes-drop n bytes are = IsBytes-behind (take n bytes) (drop n bytes) (subst IsBytes (sym (take-append-drop n bytes)) are)

-- ---- numbers of so many bytes

number_behind-below : (bytes : List ℕ) (i k n : ℕ) → IsBytes bytes → k ≡ i + length bytes → n < 256 ^ i →
    number_behind n bytes < 256 ^ k
number_behind-below [] i k n are e below =
    let same : i ≡ k = omega arith in
    subst (λ (j : ℕ). n < 256 ^ j) same below
number_behind-below (byte ∷ bytes) i k n are e below =
    number_behind-below bytes (i + 1) k (n * 256 + byte) (λ j. are (suc j)) (omega arith) (next_below i n byte below (are 0))

number_at-below : (place len : ℕ) (bytes : List ℕ) → IsBytes bytes → number_at place len bytes < 256 ^ len
number_at-below place len bytes are =
    let part = take len (drop place bytes) in
    let below : number_of part < 256 ^ length part =
    number_behind-below part 0 (length part) 0 (IsBytes-take len (drop place bytes) (IsBytes-drop place bytes are))
    (omega arith) (lit< tt) in
    let short : length part ≤ len = omega (arith, length-take len (drop place bytes)) in
    let most : 256 ^ length part ≤ 256 ^ len = pow-le-pow_right (lit< tt) {i = length part} {j = len} short in
    omega arith

-- ---- the values of a selector

values_in-fit : (family : Family) (len : ℕ) (bytes : List ℕ) → IsBytes bytes → 256 ^ len ≤ last_address family + 1 →
    fits_bytes (values_in family len bytes) ≡ true
values_in-fit family len bytes are room =
    let protocol : number_at 1 1 bytes ≤ 255 = omega (arith, number_at-below 1 1 bytes are) in
    let start_port : number_at 4 2 bytes ≤ 65535 = omega (arith, number_at-below 4 2 bytes are) in
    let end_port : number_at 6 2 bytes ≤ 65535 = omega (arith, number_at-below 6 2 bytes are) in
    let start : number_at 8 len bytes ≤ last_address family = omega (arith, number_at-below 8 len bytes are) in
    let last : number_at (8 + len) len bytes ≤ last_address family = omega (arith, number_at-below (8 + len) len bytes are) in
    and_from (leb (number_at 1 1 bytes) 255) _ (le-leb (number_at 1 1 bytes) 255 protocol)
    (and_from (leb (number_at 4 2 bytes) 65535) _ (le-leb (number_at 4 2 bytes) 65535 start_port)
    (and_from (leb (number_at 6 2 bytes) 65535) _ (le-leb (number_at 6 2 bytes) 65535 end_port)
    (and_from (leb (number_at 8 len bytes) (last_address family)) (leb (number_at (8 + len) len bytes) (last_address family))
    (le-leb (number_at 8 len bytes) (last_address family) start) (le-leb (number_at (8 + len) len bytes) (last_address family) last))))

-- A selector by its type.
by_type : (a b : Bool) (four six : Ts) → fits_bytes four ≡ true → fits_bytes six ≡ true →
    piece_keeps_rules (cond a (Some four) (cond b (Some six) None)) ≡ true →
    IfSome (cond a (Some four) (cond b (Some six) None)) (λ selector. is_selector selector ≡ true)
by_type true b four six fits_four fits_six kept = and_from (fits_bytes four) (keeps_rules four) fits_four kept
by_type false true four six fits_four fits_six kept = and_from (fits_bytes six) (keeps_rules six) fits_six kept
by_type false false four six fits_four fits_six kept = tt

selector_in-right : (piece : List ℕ) → IsBytes piece → is_piece piece ≡ true →
    IfSome (selector_in piece) (λ selector. is_selector selector ≡ true)
selector_in-right piece are h =
    by_type (eqb (type_in piece) 7) (eqb (type_in piece) 8) (values_in Four 4 piece) (values_in Six 16 piece)
    (values_in-fit Four 4 piece are (lit≤ tt)) (values_in-fit Six 16 piece are (lit≤ tt)) (piece_parts piece h).kept

cons_option-right : (first : Option Ts) (others : List Ts) → IfSome first (λ selector. is_selector selector ≡ true) →
    list_all is_selector others ≡ true → list_all is_selector (cons_option first others) ≡ true
cons_option-right None others h all = all
cons_option-right (Some selector) others h all = and_from (is_selector selector) (list_all is_selector others) h all

pieces-right : (pieces : List (List ℕ)) → IsBytes (concat pieces) → list_all is_piece pieces ≡ true →
    list_all is_selector (filter_map selector_in pieces) ≡ true
pieces-right [] are h = refl
pieces-right (piece ∷ pieces) are h =
    let parts = and_parts (is_piece piece) (list_all is_piece pieces) h in
    cons_option-right (selector_in piece) (filter_map selector_in pieces)
    (selector_in-right piece (IsBytes-front piece (concat pieces) are) parts.0)
    (pieces-right pieces (IsBytes-behind piece (concat pieces) are) parts.1)

-- ---- payloads, lines and proposals

payload_of-selectors : (bytes : List ℕ) (list : List Ts) → IsBytes bytes → payload_of bytes ≡ Ok list → AreSelectors list
payload_of-selectors bytes list are h =
    let p = read-payload bytes list h in
    let body = IsBytes-front (concat p.pieces) [] (subst IsBytes p.body.parts (IsBytes-drop 8 bytes are)) in
    subst (λ (selectors : List Ts). AreSelectors selectors) (sym p.read) (pieces-right p.pieces body p.body.each)

line_payload-selectors : (line : ℕ) (text : List ℕ) (list : List Ts) → line_payload line text ≡ Ok list → AreSelectors list
line_payload-selectors line text list h = digits (decode_of text) refl h
  where
    payload : (bytes : List ℕ) → IsBytes bytes → (read : Result (List Ts) TsFault) → payload_of bytes ≡ read →
        of_line line read ≡ Ok list → AreSelectors list
    payload bytes are (Ok other) e h =
        let same : other ≡ list = cc h in
        subst (λ (selectors : List Ts). AreSelectors selectors) same (payload_of-selectors bytes other are e)
    payload bytes are (Err fault) e h = absurd cc

    digits : (read : Result (List ℕ) FromHexError) → decode_of text ≡ read → of_digits line read ≡ Ok list → AreSelectors list
    digits (Ok bytes) e h = payload bytes (decode_of-ok text bytes e).3 (payload_of bytes) refl h
    digits (Err fault) e h = absurd cc

abbrev HaveSelectors : Proposal → Type 0
HaveSelectors proposal = AreSelectors proposal.tsi × AreSelectors proposal.tsr

both_payloads-selectors : (first second : Result (List Ts) ProposalFault) (proposal : Proposal) →
    ((list : List Ts) → first ≡ Ok list → AreSelectors list) → ((list : List Ts) → second ≡ Ok list → AreSelectors list) →
    both_payloads first second ≡ Ok proposal → HaveSelectors proposal
both_payloads-selectors (Ok tsi) (Ok tsr) proposal of_first of_second h =
    let made : Proposal = record { tsi = tsi; tsr = tsr } in
    let same : made ≡ proposal = cc h in
    subst (λ (p : Proposal). HaveSelectors p) same (of_first tsi refl, of_second tsr refl)
both_payloads-selectors (Ok tsi) (Err fault) proposal of_first of_second h = absurd cc
both_payloads-selectors (Err fault) second proposal of_first of_second h = absurd cc

lines_give-selectors : (texts : List (List ℕ)) (proposal : Proposal) → lines_give texts ≡ Ok proposal → HaveSelectors proposal
lines_give-selectors [] proposal h = absurd cc
lines_give-selectors (first ∷ []) proposal h = absurd cc
lines_give-selectors (first ∷ second ∷ []) proposal h =
    both_payloads-selectors (line_payload 1 first) (line_payload 2 second) proposal (line_payload-selectors 1 first)
    (line_payload-selectors 2 second) h
lines_give-selectors (first ∷ second ∷ third ∷ more) proposal h = absurd cc

pub proposal_of-selectors : (bytes : List ℕ) (proposal : Proposal) → proposal_of bytes ≡ Ok proposal → HaveSelectors proposal
unfolding proposal_of
proposal_of-selectors bytes proposal h = lines_give-selectors (texts_of bytes) proposal h

-- One selector at the front of bytes: what has no fault there is a piece, and a piece has none.
use Rattle.std.proofs.Common.{◌≡◌, ℕ, ◌+◌, ◌≤◌, ◌&&◌, Bool, true, false, cond, not, eqb, leb, List, ◌++◌, length, take, drop, Option, Some, None, refl}
use Rattle.std.proofs.Common.{sym, ap, ◌∙◌, arith}
use Rattle.std.proofs.lemmas.Bool.{and_from, and_parts, eqb-true, eq-eqb, leb-true, le-leb, ne_eqb}
use Rattle.std.proofs.lemmas.List.{drop_at, length-append, length-take-le, take_at, take-append-drop}
use Rattle.ts_payload.specs.declared.selector.Ts.{Ts}
use Rattle.ts_payload.specs.declared.fault.TsFault.{TsFault}
use Rattle.ts_payload.specs.declared.fault.TsFault.TheVariants.{AddressOrder, PortOrder, PortNoProtocol, CountMismatch, SelectorLength}
use Rattle.ts_payload.specs.Selector.{addresses_in_order, ports_in_order, ports_suit_protocol}
use Rattle.ts_payload.specs.Piece.{begins_whole, behind_piece, first_piece, has_length, is_piece, length_in, next_fault, piece_fault, piece_keeps_rules}
use Rattle.ts_payload.specs.Piece.{selector_in, type_in}
use Rattle.ts_payload.proofs.Numbers.{number_at-append, number_at-take}

-- ---- the rules

no_rule : (a b c : Bool) (x y z : TsFault) → (a && (b && c)) ≡ true
    → cond (not a) (Some x) (cond (not b) (Some y) (cond (not c) (Some z) None)) ≡ None
no_rule true true true x y z h = refl
no_rule true true false x y z h = absurd cc
no_rule true false c x y z h = absurd cc
no_rule false b c x y z h = absurd cc

all_rules : (a b c : Bool) (x y z : TsFault)
    → cond (not a) (Some x) (cond (not b) (Some y) (cond (not c) (Some z) None)) ≡ None → (a && (b && c)) ≡ true
all_rules true true true x y z h = refl
all_rules true true false x y z h = absurd cc
all_rules true false c x y z h = absurd cc
all_rules false b c x y z h = absurd cc

pub piece_fault-none : (index : ℕ) (selector : Option Ts) → piece_keeps_rules selector ≡ true → piece_fault index selector ≡ None
piece_fault-none index None h = refl
piece_fault-none index (Some selector) h =
    no_rule (addresses_in_order selector) (ports_in_order selector) (ports_suit_protocol selector)
    (AddressOrder index) (PortOrder index) (PortNoProtocol index) h

pub none-keeps_rules : (index : ℕ) (selector : Option Ts) → piece_fault index selector ≡ None → piece_keeps_rules selector ≡ true
none-keeps_rules index None h = refl
none-keeps_rules index (Some selector) h =
    all_rules (addresses_in_order selector) (ports_in_order selector) (ports_suit_protocol selector)
    (AddressOrder index) (PortOrder index) (PortNoProtocol index) h

-- ---- pieces by their parts

at_least_four : (a b : Bool) (len : ℕ) → cond a (eqb len 16) (cond b (eqb len 40) (leb 4 len)) ≡ true → 4 ≤ len
at_least_four true b len h = let e : len ≡ 16 = eqb-true len 16 h in omega arith
at_least_four false true len h = let e : len ≡ 40 = eqb-true len 40 h in omega arith
at_least_four false false len h = leb-true 4 len h

pub has_length-four : (type_number len : ℕ) → has_length type_number len ≡ true → 4 ≤ len
has_length-four type_number len h = at_least_four (eqb type_number 7) (eqb type_number 8) len h

pub record PieceParts (bytes : List ℕ) : Type 0 where
  pub head : 4 ≤ length bytes
  pub own_length : length_in bytes ≡ length bytes
  pub suits : has_length (type_in bytes) (length bytes) ≡ true
  pub kept : piece_keeps_rules (selector_in bytes) ≡ true

pub piece_parts : (bytes : List ℕ) → is_piece bytes ≡ true → PieceParts bytes
piece_parts bytes h =
    let a = and_parts (leb 4 (length bytes)) ((eqb (length_in bytes) (length bytes)) && (has_length (type_in bytes)
    (length bytes) && piece_keeps_rules (selector_in bytes))) h in
    let b = and_parts (eqb (length_in bytes) (length bytes)) (has_length (type_in bytes) (length bytes) && piece_keeps_rules (selector_in bytes)) a.1 in
    let c = and_parts (has_length (type_in bytes) (length bytes)) (piece_keeps_rules (selector_in bytes)) b.1 in
    record { head = leb-true 4 (length bytes) a.0; own_length = eqb-true (length_in bytes) (length bytes) b.0; suits = c.0; kept = c.1 }

pub piece_from : (bytes : List ℕ) → PieceParts bytes → is_piece bytes ≡ true
piece_from bytes p =
    and_from (leb 4 (length bytes)) _ (le-leb 4 (length bytes) p.head)
    (and_from (eqb (length_in bytes) (length bytes)) _ (eq-eqb (length_in bytes) (length bytes) p.own_length)
    (and_from (has_length (type_in bytes) (length bytes)) (piece_keeps_rules (selector_in bytes)) p.suits p.kept))

-- ---- a piece at the front

length_in-front : (piece rest : List ℕ) → PieceParts piece → length_in (piece ++ rest) ≡ length piece
length_in-front piece rest p = number_at-append 2 2 piece rest p.head ∙ p.own_length

pub first_piece-front : (piece rest : List ℕ) → PieceParts piece → first_piece (piece ++ rest) ≡ piece
first_piece-front piece rest p =
    ap (λ (n : ℕ). take n (piece ++ rest)) (length_in-front piece rest p) ∙ take_at piece rest (length piece) refl

pub behind_piece-front : (piece rest : List ℕ) → PieceParts piece → behind_piece (piece ++ rest) ≡ rest
behind_piece-front piece rest p =
    ap (λ (n : ℕ). drop n (piece ++ rest)) (length_in-front piece rest p) ∙ drop_at piece rest (length piece) refl

begins_whole-front : (piece rest : List ℕ) → PieceParts piece → begins_whole (piece ++ rest) ≡ true
begins_whole-front piece rest p =
    let bytes = piece ++ rest in
    let len : length bytes ≡ length piece + length rest = length-append piece rest in
    let own : length_in bytes ≡ length piece = length_in-front piece rest p in
    let type_is : type_in bytes ≡ type_in piece = number_at-append 0 1 piece rest (let h = p.head in omega arith) in
    let suits : has_length (type_in bytes) (length_in bytes) ≡ true =
    ap (λ (n : ℕ). has_length n (length_in bytes)) type_is ∙ (ap (λ (n : ℕ). has_length (type_in piece) n) own ∙ p.suits) in
    let head = p.head in
    and_from (leb 4 (length bytes)) _ (le-leb 4 (length bytes) (omega arith))
    (and_from (leb (length_in bytes) (length bytes)) _ (le-leb (length_in bytes) (length bytes) (omega arith)) suits)

second_case : {A : Type 0} (a b : Bool) (x y z : A) → a ≡ false → b ≡ true → cond a x (cond b y z) ≡ y
second_case true true x y z h i = absurd cc
second_case true false x y z h i = absurd cc
second_case false true x y z h i = refl
second_case false false x y z h i = absurd cc

pub next_fault-front : (index : ℕ) (piece rest : List ℕ) → PieceParts piece → next_fault index (piece ++ rest) ≡ None
next_fault-front index piece rest p =
    let bytes = piece ++ rest in
    let len : length bytes ≡ length piece + length rest = length-append piece rest in
    let head = p.head in
    second_case (eqb (length bytes) 0) (begins_whole bytes) (Some CountMismatch)
    (piece_fault index (selector_in (first_piece bytes))) (Some (SelectorLength index))
    (ne_eqb (length bytes) 0 (λ e. omega arith)) (begins_whole-front piece rest p)
    ∙ (ap (λ (xs : List ℕ). piece_fault index (selector_in xs)) (first_piece-front piece rest p)
    ∙ piece_fault-none index (selector_in piece) p.kept)

-- ---- a front without a fault

neither : (a b : Bool) (f g : TsFault) (x : Option TsFault) → cond a (Some f) (cond b x (Some g)) ≡ None → (b ≡ true) × (x ≡ None)
neither true b f g x h = absurd cc
neither false true f g x h = (refl, h)
neither false false f g x h = absurd cc

pub first_piece-parts : (index : ℕ) (bytes : List ℕ) → next_fault index bytes ≡ None → PieceParts (first_piece bytes)
first_piece-parts index bytes h =
    let n = neither (eqb (length bytes) 0) (begins_whole bytes) CountMismatch (SelectorLength index) (piece_fault index (selector_in (first_piece bytes))) h in
    let a = and_parts (leb 4 (length bytes)) (leb (length_in bytes) (length bytes) && has_length (type_in bytes) (length_in bytes)) n.0 in
    let b = and_parts (leb (length_in bytes) (length bytes)) (has_length (type_in bytes) (length_in bytes)) a.1 in
    let long : length_in bytes ≤ length bytes = leb-true (length_in bytes) (length bytes) b.0 in
    let four : 4 ≤ length_in bytes = has_length-four (type_in bytes) (length_in bytes) b.1 in
    let len : length (first_piece bytes) ≡ length_in bytes = length-take-le (length_in bytes) bytes long in
    let type_is : type_in (first_piece bytes) ≡ type_in bytes = number_at-take 0 1 (length_in bytes) bytes long (omega arith) in
    let own : length_in (first_piece bytes) ≡ length_in bytes = number_at-take 2 2 (length_in bytes) bytes long four in
    record {
      head = omega arith;
      own_length = own ∙ sym len;
      suits = ap (λ (k : ℕ). has_length k (length (first_piece bytes))) type_is ∙ (ap (λ (k : ℕ). has_length (type_in bytes) k) len ∙ b.1);
      kept = none-keeps_rules index (selector_in (first_piece bytes)) n.1;
    }

pub front-parts : (bytes : List ℕ) → first_piece bytes ++ behind_piece bytes ≡ bytes
front-parts bytes = take-append-drop (length_in bytes) bytes

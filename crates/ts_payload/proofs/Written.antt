-- What is written is a payload of its selectors, and no payload goes on behind its end.
use Rattle.std.proofs.Common.{◌≡◌, ℕ, ◌+◌, ◌*◌, ◌≤◌, ◌&&◌, true, leb, List, [], ◌∷◌, ◌++◌, length, map, Some, refl, sym, ap, ◌∙◌, append_assoc}
use Rattle.std.proofs.Common.{zero-add, arith}
use Rattle.std.specs.List.{concat, cons_option, filter_map, flat_map, list_all}
use Rattle.std.proofs.lemmas.Bool.{and_from, and_parts, leb-true}
use Rattle.std.proofs.lemmas.List.{length-append, length-map, nil_from_length}
use Rattle.sel_text.specs.declared.family.Family.{Family}
use Rattle.sel_text.specs.declared.family.Family.TheVariants.{Four, Six}
use Rattle.sel_text.specs.Family.{last_address}
use Rattle.ts_payload.specs.declared.selector.Ts.{Ts}
use Rattle.ts_payload.specs.Selector.{fits_bytes, is_selector, keeps_rules}
use Rattle.ts_payload.specs.Piece.{is_piece, piece_keeps_rules, selector_in}
use Rattle.ts_payload.specs.Payload.{IsPayload, payload_bytes, payload_length, selector_bytes}
use Rattle.ts_payload.proofs.Numbers.{number_at-append, number_of-bytes}
use Rattle.ts_payload.proofs.Pieces.{piece_from}

-- ---- one selector

-- the selector of these values
abbrev made : Family → ℕ → ℕ → ℕ → ℕ → ℕ → Ts
made family protocol start_port end_port start last = record {
  family = family;
  protocol = protocol;
  start_port = start_port;
  end_port = end_port;
  start = start;
  «end» = last;
}

record Fits (selector : Ts) : Type 0 where
  start_port : selector.start_port ≤ 65535
  end_port : selector.end_port ≤ 65535
  start : selector.start ≤ last_address selector.family
  last : selector.«end» ≤ last_address selector.family

fits : (selector : Ts) → fits_bytes selector ≡ true → Fits selector
fits selector h =
    let last_is = last_address selector.family in
    let ends = leb selector.start last_is && leb selector.«end» last_is in
    let a = and_parts (leb selector.protocol 255) (leb selector.start_port 65535 && (leb selector.end_port 65535 && ends)) h in
    let b = and_parts (leb selector.start_port 65535) (leb selector.end_port 65535 && ends) a.1 in
    let c = and_parts (leb selector.end_port 65535) ends b.1 in
    let d = and_parts (leb selector.start last_is) (leb selector.«end» last_is) c.1 in
    record {
      start_port = leb-true selector.start_port 65535 b.0;
      end_port = leb-true selector.end_port 65535 c.0;
      start = leb-true selector.start last_is d.0;
      last = leb-true selector.«end» last_is d.1;
    }

-- the bytes of a selector are one piece, which is read as it
pub record IsWritten (selector : Ts) : Type 0 where
  pub read : selector_in (selector_bytes selector) ≡ Some selector
  pub piece : is_piece (selector_bytes selector) ≡ true
  pub short : length (selector_bytes selector) ≤ 40

written_values : (family : Family) (protocol start_port end_port start last : ℕ) → Fits (made family protocol start_port end_port start last)
    → keeps_rules (made family protocol start_port end_port start last) ≡ true → IsWritten (made family protocol start_port end_port start last)
written_values Four protocol start_port end_port start last f h =
    let a = number_of-bytes 2 start_port (let x = f.start_port in omega arith) in
    let b = number_of-bytes 2 end_port (let x = f.end_port in omega arith) in
    let c = number_of-bytes 4 start (let x = f.start in omega arith) in
    let d = number_of-bytes 4 last (let x = f.last in omega arith) in
    let selector = made Four protocol start_port end_port start last in
    let read : selector_in (selector_bytes selector) ≡ Some selector = rw (a, b, c, d, zero-add protocol) refl in
    record {
      read = read;
      piece = piece_from (selector_bytes selector) (record { head = omega arith; own_length = refl; suits = refl; kept = ap piece_keeps_rules read ∙ h });
      short = omega arith;
    }
written_values Six protocol start_port end_port start last f h =
    let a = number_of-bytes 2 start_port (let x = f.start_port in omega arith) in
    let b = number_of-bytes 2 end_port (let x = f.end_port in omega arith) in
    let c = number_of-bytes 16 start (let x = f.start in omega arith) in
    let d = number_of-bytes 16 last (let x = f.last in omega arith) in
    let selector = made Six protocol start_port end_port start last in
    let read : selector_in (selector_bytes selector) ≡ Some selector = rw (a, b, c, d, zero-add protocol) refl in
    record {
      read = read;
      piece = piece_from (selector_bytes selector) (record { head = omega arith; own_length = refl; suits = refl; kept = ap piece_keeps_rules read ∙ h });
      short = omega arith;
    }

pub written : (selector : Ts) → is_selector selector ≡ true → IsWritten selector
written selector h =
    let parts = and_parts (fits_bytes selector) (keeps_rules selector) h in
    written_values selector.family selector.protocol selector.start_port selector.end_port selector.start selector.«end» (fits selector parts.0) parts.1

-- ---- all selectors

pub record AreWritten (selectors : List Ts) : Type 0 where
  pub parts : flat_map selector_bytes selectors ≡ concat (map selector_bytes selectors) ++ []
  pub each : list_all is_piece (map selector_bytes selectors) ≡ true
  pub read : selectors ≡ filter_map selector_in (map selector_bytes selectors)
  pub short : length (flat_map selector_bytes selectors) ≤ 40 * length selectors

pub all_written : (selectors : List Ts) → list_all is_selector selectors ≡ true → AreWritten selectors
all_written [] h = record { parts = refl; each = refl; read = refl; short = omega arith }
all_written (selector ∷ selectors) h =
    let split = and_parts (is_selector selector) (list_all is_selector selectors) h in
    let first = written selector split.0 in
    let others = all_written selectors split.1 in
    let first_short = first.short in
    let others_short = others.short in
    record {
      parts = ap (λ (xs : List ℕ). selector_bytes selector ++ xs) others.parts
          ∙ sym (append_assoc (selector_bytes selector) (concat (map selector_bytes selectors)) []);
      each = and_from (is_piece (selector_bytes selector)) (list_all is_piece (map selector_bytes selectors)) first.piece others.each;
      read = ap (λ (xs : List Ts). selector ∷ xs) others.read
          ∙ sym (ap (λ o. cons_option o (filter_map selector_in (map selector_bytes selectors))) first.read);
      short = omega (arith, length-append (selector_bytes selector) (flat_map selector_bytes selectors));
    }

-- ---- the payload

pub written_payload : (next : ℕ) (selectors : List Ts) → list_all is_selector selectors ≡ true → length selectors ≤ 127
    → IsPayload (payload_bytes next selectors) selectors
written_payload next selectors h few =
    let w = all_written selectors h in
    let body = flat_map selector_bytes selectors in
    let short = w.short in
    let len : payload_length (payload_bytes next selectors) ≡ 8 + length body = number_of-bytes 2 (8 + length body) (omega arith) in
    record {
      header = record { whole = omega arith; own_length = len ∙ omega arith };
      pieces = map selector_bytes selectors;
      count = length-map selectors selector_bytes ∙ omega arith;
      few = omega arith;
      body = record { parts = w.parts; each = w.each };
      read = w.read;
    }

pub no_prefix : (bytes more : List ℕ) (list other : List Ts) → IsPayload bytes list → IsPayload (bytes ++ more) other → more ≡ []
no_prefix bytes more list other p q =
    let long = p.header.whole in
    let same : payload_length (bytes ++ more) ≡ payload_length bytes = number_at-append 2 2 bytes more (omega arith) in
    let own = p.header.own_length in
    let all = q.header.own_length in
    let len : length (bytes ++ more) ≡ length bytes + length more = length-append bytes more in
    let none : length more ≡ 0 = omega arith in
    nil_from_length more none

-- Traffic selector payloads by their fields and lengths (RFC 7296 section 3.13).
use Rattle.std.specs.Prelude.{◌≡◌, ◌≢◌, ℕ, ◌+◌, ◌<◌, ◌≤◌, List, [], ◌∷◌, ◌++◌, length, drop, IsTrue, Some}
use Rattle.std.specs.List.{concat, filter_map, flat_map, list_all}
use Rattle.std.specs.Int.{w16, w32, w128, to_be_bytes}
use Rattle.sel_text.specs.declared.family.Family.{Family}
use Rattle.sel_text.specs.declared.family.Family.TheVariants.{Four, Six}
use Rattle.ts_payload.specs.declared.selector.Ts.{Ts}
use Rattle.ts_payload.specs.declared.fault.TsFault.{TsFault}
use Rattle.ts_payload.specs.declared.fault.TsFault.TheVariants.{Short, LengthMismatch, TooMany, CountMismatch}
use Rattle.ts_payload.specs.Number.{number_at}
use Rattle.ts_payload.specs.Piece.{is_piece, next_fault, selector_in}

-- The Payload Length, and the Number of TSs.
abbrev pub payload_length : List ℕ → ℕ
payload_length bytes = number_at 2 2 bytes

abbrev pub selector_count : List ℕ → ℕ
selector_count bytes = number_at 4 1 bytes

-- The bytes have the eight of a header, and the length in it is theirs.
pub record HasHeader (bytes : List ℕ) : Type 0 where
  pub whole : 8 ≤ length bytes
  pub own_length : payload_length bytes ≡ length bytes

-- Bytes are cut into selectors, up to a rest.
pub record BeginsWith (bytes : List ℕ) (pieces : List (List ℕ)) (rest : List ℕ) : Type 0 where
  pub parts : bytes ≡ concat pieces ++ rest
  pub each : IsTrue (list_all is_piece pieces)

-- The bytes are a payload with these selectors: as many pieces as it counts stand behind its header and nothing else,
-- and the selectors are those of types 7 and 8 among them, in order.
pub record IsPayload (bytes : List ℕ) (selectors : List Ts) : Type 0 where
  pub header : HasHeader bytes
  pub pieces : List (List ℕ)
  pub count : length pieces ≡ selector_count bytes
  pub few : selector_count bytes ≤ 127
  pub body : BeginsWith (drop 8 bytes) pieces []
  pub read : selectors ≡ filter_map selector_in pieces

-- The first fault among so many selectors: what stands before is right, and it is that of the selector behind, or more bytes are left.
pub data IsFirstFault : ℕ → List ℕ → TsFault → Type 0 where
  at_selector : (count : ℕ) (bytes : List ℕ) (fault : TsFault) (pieces : List (List ℕ)) (rest : List ℕ) → BeginsWith bytes pieces rest
      → length pieces < count → next_fault (length pieces + 1) rest ≡ Some fault → IsFirstFault count bytes fault
  left_over : (count : ℕ) (bytes : List ℕ) (pieces : List (List ℕ)) (rest : List ℕ) → BeginsWith bytes pieces rest
      → length pieces ≡ count → 0 < length rest → IsFirstFault count bytes CountMismatch

-- The first fault of bytes that are no payload, in the order in which it is looked for.
pub data IsPayloadFault : List ℕ → TsFault → Type 0 where
  short : (bytes : List ℕ) → length bytes < 8 → IsPayloadFault bytes Short
  length_mismatch : (bytes : List ℕ) → 8 ≤ length bytes → payload_length bytes ≢ length bytes → IsPayloadFault bytes LengthMismatch
  too_many : (bytes : List ℕ) → HasHeader bytes → 127 < selector_count bytes → IsPayloadFault bytes TooMany
  among_selectors : (bytes : List ℕ) (fault : TsFault) → HasHeader bytes → selector_count bytes ≤ 127
      → IsFirstFault (selector_count bytes) (drop 8 bytes) fault → IsPayloadFault bytes fault

-- The bytes of the two ports of a selector, of a selector of a family, and of a selector.
abbrev pub port_bytes : Ts → List ℕ
port_bytes selector = to_be_bytes w16 selector.start_port ++ to_be_bytes w16 selector.end_port

abbrev pub selector_bytes_of : Family → Ts → List ℕ
selector_bytes_of Four selector =
    7 ∷ selector.protocol ∷ 0 ∷ 16 ∷ (port_bytes selector ++ (to_be_bytes w32 selector.start ++ to_be_bytes w32 selector.«end»))
selector_bytes_of Six selector =
    8 ∷ selector.protocol ∷ 0 ∷ 40 ∷ (port_bytes selector ++ (to_be_bytes w128 selector.start ++ to_be_bytes w128 selector.«end»))

abbrev pub selector_bytes : Ts → List ℕ
selector_bytes selector = selector_bytes_of selector.family selector

-- The bytes of a payload with this Next Payload and these selectors, reserved parts being 0.
abbrev pub payload_bytes : ℕ → List Ts → List ℕ
payload_bytes next selectors =
    let body = flat_map selector_bytes selectors in
    next ∷ 0 ∷ (to_be_bytes w16 (8 + length body) ++ (length selectors ∷ 0 ∷ 0 ∷ 0 ∷ body))

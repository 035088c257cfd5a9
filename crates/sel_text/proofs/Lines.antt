-- How a text is cut into its lines, and that they make it up.
use Rattle.std.proofs.Common.{◌≡◌, ℕ, suc, ◌+◌, ◌<◌, List, [], ◌∷◌, Bool, true, false, min, nat_eq, length, take, drop, not, inl, inr, refl, sym, ap, ◌∙◌}
use Rattle.std.proofs.Common.{one-add, arith, add-one}
use Rattle.std.specs.List.{concat, onto_first, position_or_len}
use Rattle.std.proofs.lemmas.List.{drop_all, length-take, take_min, take-take}
use Rattle.std.proofs.lemmas.Bool.{cases_lt}
use Rattle.sel_text.specs.Lines.{lines_of, before_feed, behind_feed}
use Rattle.sel_text.proofs.FirstPlaces.{prefix_len-take, position_or_len-le-length}

pub concat-onto_first : (byte : ℕ) (parts : List (List ℕ)) → concat (onto_first byte parts) ≡ byte ∷ concat parts
concat-onto_first byte [] = refl
concat-onto_first byte (part ∷ parts) = refl

abbrev pub is_feed : ℕ → Bool
is_feed byte = nat_eq byte 10

lines_by : (byte : ℕ) (bytes : List ℕ) (test : Bool) → is_feed byte ≡ test → concat (lines_of bytes) ≡ bytes → concat (lines_of (byte ∷ bytes)) ≡ byte ∷ bytes
lines_by byte bytes true is more = rw (is, more) refl
lines_by byte bytes false is more = rw is (concat-onto_first byte (lines_of bytes) ∙ ap (λ rest. byte ∷ rest) more)

pub concat-lines_of : (text : List ℕ) → concat (lines_of text) ≡ text
concat-lines_of [] = refl
concat-lines_of (byte ∷ bytes) = lines_by byte bytes (is_feed byte) refl (concat-lines_of bytes)

-- How many bytes stand before the first LF.
abbrev pub feed_place : List ℕ → ℕ
feed_place text = position_or_len is_feed text

line_by : (byte : ℕ) (bytes : List ℕ) (test : Bool) → is_feed byte ≡ test
    → lines_of bytes ≡ take (suc (feed_place bytes)) bytes ∷ lines_of (drop (suc (feed_place bytes)) bytes)
    → lines_of (byte ∷ bytes) ≡ take (suc (feed_place (byte ∷ bytes))) (byte ∷ bytes) ∷ lines_of (drop (suc (feed_place (byte ∷ bytes))) (byte ∷ bytes))
line_by byte bytes true is more = rw is refl
line_by byte bytes false is more = rw (is, one-add) (rw more refl)

last_by : (byte : ℕ) (test : Bool) → is_feed byte ≡ test
    → lines_of (byte ∷ []) ≡ take (suc (feed_place (byte ∷ []))) (byte ∷ []) ∷ lines_of (drop (suc (feed_place (byte ∷ []))) (byte ∷ []))
last_by byte true is = rw is refl
last_by byte false is = rw is refl

-- The first line is what stands up to the first LF.
lines-first : (byte : ℕ) (bytes : List ℕ)
    → lines_of (byte ∷ bytes) ≡ take (suc (feed_place (byte ∷ bytes))) (byte ∷ bytes) ∷ lines_of (drop (suc (feed_place (byte ∷ bytes))) (byte ∷ bytes))
lines-first byte [] = last_by byte (is_feed byte) refl
lines-first byte (next ∷ bytes) = line_by byte (next ∷ bytes) (is_feed byte) refl (lines-first next bytes)

-- How many bytes the first line has, its LF among them.
abbrev pub line_len : List ℕ → ℕ
line_len bytes = min (length (before_feed bytes) + 1) (length bytes)

len_by_place : (bytes : List ℕ) → line_len bytes ≡ min (suc (feed_place bytes)) (length bytes)
len_by_place bytes =
    omega (arith, length-take (feed_place bytes) bytes, position_or_len-le-length is_feed bytes)

take-line : (bytes : List ℕ) → take (line_len bytes) bytes ≡ take (suc (feed_place bytes)) bytes
take-line bytes = rw (len_by_place bytes) (take_min (suc (feed_place bytes)) bytes)

drop-line : (bytes : List ℕ) → drop (line_len bytes) bytes ≡ drop (suc (feed_place bytes)) bytes
drop-line bytes =
    rw (len_by_place bytes)
    (elim (cases_lt (length bytes) (suc (feed_place bytes))) [
      | inl past ↦
          let all : min (suc (feed_place bytes)) (length bytes) ≡ length bytes = omega arith in
          rw all (drop_all (length bytes) bytes (omega arith) ∙ sym (drop_all (suc (feed_place bytes)) bytes (omega arith)))
      | inr within ↦
          let all : min (suc (feed_place bytes)) (length bytes) ≡ suc (feed_place bytes) = omega arith in
          rw all refl
    ])

-- The first line with its LF has the same before it.
pub before_feed-line : (bytes : List ℕ) → before_feed (take (suc (feed_place bytes)) bytes) ≡ before_feed bytes
before_feed-line bytes =
    let same : feed_place (take (suc (feed_place bytes)) bytes) ≡ feed_place bytes =
    omega (arith, prefix_len-take (λ byte. not (is_feed byte)) (suc (feed_place bytes)) bytes) in
    rw same (take-take (feed_place bytes) (suc (feed_place bytes)) bytes (omega arith))

pub lines-cut : (bytes : List ℕ) → 0 < length bytes → lines_of bytes ≡ take (suc (feed_place bytes)) bytes ∷ lines_of (drop (suc (feed_place bytes)) bytes)
lines-cut [] some = absurd (omega arith)
lines-cut (byte ∷ bytes) some = lines-first byte bytes

-- The first line and the others.
pub lines_of-first : (bytes : List ℕ) → 0 < length bytes → lines_of bytes ≡ take (line_len bytes) bytes ∷ lines_of (drop (line_len bytes) bytes)
lines_of-first bytes some = rw (take-line, drop-line) (lines-cut bytes some)

-- What stands behind the bytes of the first line.
pub drop-first : (bytes : List ℕ) → drop (line_len bytes) bytes ≡ behind_feed bytes
drop-first bytes = rw (drop-line, add-one) refl

-- Numbers in network byte order: their bounds, where they stand, and that they are read as they are written.
use Rattle.std.proofs.Common.{◌≡◌, ℕ, zero, suc, ◌+◌, ◌*◌, ◌/◌, ◌%◌, ◌^◌, ◌<◌, ◌≤◌, List, ◌++◌, length, take, drop, refl, sym, ap, ◌∙◌, arith, lit<}
use Rattle.std.specs.Int.{byte_at, bytes_high_first}
use Rattle.std.proofs.Math.Nat.{div-one, mod-eq_of_lt, pow-le-pow_right, pow-suc}
use Rattle.std.proofs.lemmas.Nat.{mod-pow-add, pow-add}
use Rattle.std.proofs.lemmas.Grind.{pow_more}
use Rattle.std.proofs.lemmas.List.{drop-append-le, length-drop, take-append-drop, take-append-le, length-take-le}
use Rattle.ts_payload.specs.Number.{number_at, number_behind, number_of}

-- one byte more
pub next_below : (i n byte : ℕ) → n < 256 ^ i → byte < 256 → n * 256 + byte < 256 ^ (i + 1)
next_below i n byte below fits = omega (arith, pow_more 256 i)

pub next_fits : (i n byte : ℕ) → i < 16 → n < 256 ^ i → byte < 256 → n * 256 + byte < 2 ^ 128
next_fits i n byte short below fits =
    let most : 256 ^ (i + 1) ≤ 256 ^ 16 = pow-le-pow_right (lit< tt) {i = i + 1} {j = 16} (omega arith) in
    omega (arith, next_below i n byte below fits)

-- what is written from the highest byte down
power : (k : ℕ) → 256 ^ k ≡ 2 ^ (8 * k)
power zero = refl
power (suc k) =
    let e : 8 * suc k ≡ 8 * k + 8 = omega arith in
    pow-suc 256 k ∙ rw (power k, e, pow-add 2 (8 * k) 8) refl

byte-is : (k n : ℕ) → byte_at k n ≡ n / 256 ^ k % 256
byte-is zero n = rw (div-one n) refl
byte-is (suc k) n = refl

top_byte : (k n : ℕ) → n % 256 ^ suc k ≡ byte_at k n * 256 ^ k + n % 256 ^ k
top_byte k n =
    let e : 8 * suc k ≡ 8 + 8 * k = omega arith in
    rw (byte-is k n, power (suc k), power k, e) (mod-pow-add n 8 (8 * k))

pub number_behind-bytes : (k before n : ℕ) → number_behind before (bytes_high_first k n) ≡ before * 256 ^ k + n % 256 ^ k
number_behind-bytes zero before n = omega arith
number_behind-bytes (suc k) before n =
    number_behind-bytes k (before * 256 + byte_at k n) n ∙ rw (top_byte k n, pow-suc 256 k) (omega arith)

-- what is written is read
pub number_of-bytes : (k n : ℕ) → n < 256 ^ k → number_of (bytes_high_first k n) ≡ n
number_of-bytes k n below = number_behind-bytes k 0 n ∙ omega (arith, mod-eq_of_lt below)

-- a number stands in the front part alone
pub number_at-append : (place len : ℕ) (a b : List ℕ) → place + len ≤ length a → number_at place len (a ++ b) ≡ number_at place len a
number_at-append place len a b within =
    let place_in : place ≤ length a = omega arith in
    let len_in : len ≤ length (drop place a) = omega (arith, length-drop place a) in
    ap (λ (xs : List ℕ). number_of (take len xs)) (drop-append-le place a b place_in)
    ∙ ap number_of (take-append-le len (drop place a) b len_in)

pub number_at-take : (place len n : ℕ) (bytes : List ℕ) → n ≤ length bytes → place + len ≤ n
    → number_at place len (take n bytes) ≡ number_at place len bytes
number_at-take place len n bytes long within =
    let whole : take n bytes ++ drop n bytes ≡ bytes = take-append-drop n bytes in
    sym (number_at-append place len (take n bytes) (drop n bytes) (omega (arith, length-take-le n bytes long)))
    ∙ ap (λ (xs : List ℕ). number_at place len xs) whole

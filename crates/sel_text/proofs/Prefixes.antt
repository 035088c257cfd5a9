-- A prefix holds the numbers that agree in all but the host bits.
use Rattle.std.proofs.Common.{◌≡◌, ℕ, ◌*◌, ◌/◌, ◌^◌, ◌≤◌, ap, arith}
use Rattle.std.proofs.Math.Nat.{div-eq_of_lt-le, add-mul, one-mul, mod-lt}
use Rattle.std.proofs.lemmas.Nat.{pow_pos, shr_split}
use Rattle.sel_text.specs.Item.{lowest, highest}

pub agrees : (address bits other : ℕ) → (lowest address bits ≤ other) × (other ≤ highest address bits) → other / 2 ^ bits ≡ address / 2 ^ bits
agrees address bits other within =
    let beginning = address / 2 ^ bits in
    div-eq_of_lt-le (2 ^ bits) within.0 (omega (arith, within.1, pow_pos bits, add-mul beginning 1 (2 ^ bits), one-mul (2 ^ bits)))

pub within : (address bits other : ℕ) → other / 2 ^ bits ≡ address / 2 ^ bits → (lowest address bits ≤ other) × (other ≤ highest address bits)
within address bits other same =
    let beginning = ap (λ (k : ℕ). k * 2 ^ bits) same in
    (omega (arith, beginning, shr_split other bits), omega (arith, beginning, shr_split other bits, mod-lt other (pow_pos bits), pow_pos bits))

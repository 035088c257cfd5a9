-- A product of saturated numbers saturates as the product of the numbers does.
use Rattle.std.proofs.Common.{◌≡◌, ℕ, zero, suc, ◌*◌, ◌<◌, ◌≤◌, min, refl, ⊎_elim, arith}
use Rattle.std.proofs.Math.Nat.{mul_comm, suc-mul, zero-mul}
use Rattle.std.proofs.lemmas.Bool.{cases_lt}

pub saturated-right : (a b m : ℕ) → min (a * min b m) m ≡ min (a * b) m
saturated-right zero b m = rw (zero-mul (min b m), zero-mul b) refl
saturated-right (suc a) b m = ⊎_elim past within (cases_lt m b) where
  past : m < b → min (suc a * min b m) m ≡ min (suc a * b) m
  past h =
      let is : min b m ≡ m = omega arith in
      rw (is, suc-mul a m, suc-mul a b) (omega arith)

  within : b ≤ m → min (suc a * min b m) m ≡ min (suc a * b) m
  within h = let is : min b m ≡ b = omega arith in rw is refl

pub saturated-left : (a b m : ℕ) → min (min a m * b) m ≡ min (a * b) m
saturated-left a b m = rw (mul_comm (min a m) b, mul_comm a b) (saturated-right b a m)

-- So the count of boxes, of which each factor and each product is saturated.
pub saturated_boxes : (pairs protocol local remote m : ℕ) →
    min (min pairs m * min (protocol * min (min local m * min remote m) m) m) m ≡ min (pairs * (protocol * (local * remote))) m
saturated_boxes pairs protocol local remote m = simp (saturated-left, saturated-right)

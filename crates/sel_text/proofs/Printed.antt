-- Groups printed one after another.
use Rattle.std.proofs.Common.{◌≡◌, ℕ, zero, suc, ◌+◌, ◌-◌, ◌/◌, ◌%◌, ◌^◌, ◌<◌, List, [], ◌∷◌, ◌++◌, append_assoc, arith}
use Rattle.sel_text.specs.Text.{group_text}

-- the lowest n groups, each after a `:`
abbrev pub more_groups : ℕ → ℕ → List ℕ
more_groups zero address = []
more_groups (suc n) address = 58 ∷ (group_text (address / 65536 ^ n % 65536) ++ more_groups n address)

pub one_group_more : (text : List ℕ) (address index : ℕ) → index < 8
    → ((text ++ 58 ∷ []) ++ group_text (address / 65536 ^ (7 - index) % 65536)) ++ more_groups (8 - (index + 1)) address ≡ text
    ++ more_groups (8 - index) address
one_group_more text address index inside =
    let here : 8 - index ≡ suc (7 - index) = omega arith in
    let below : 8 - (index + 1) ≡ 7 - index = omega arith in
    rw (here, below, append_assoc, append_assoc)

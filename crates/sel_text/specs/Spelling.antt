-- IPv6 addresses in the words of RFC 4291 section 2.2, apart from how a text is cut.
use Rattle.std.specs.Prelude.{ℕ, ◌+◌, ◌-◌, ◌≡◌, ◌≤◌, List, ◌∷◌, ◌++◌, length, replicate, Some}
use Rattle.std.specs.List.{join_with_byte}
use Rattle.sel_text.specs.Parts.{each}
use Rattle.sel_text.specs.Six.{group_in, address_of_groups}

-- Texts and the addresses that they spell: eight groups with `:` between them, or groups, `::` and
-- groups, at most seven in all, where `::` stands for the zero groups that are left out.
pub data Spells : List ℕ → ℕ → Type 0 where
  whole : (written : List (List ℕ)) (groups : List ℕ) → each group_in written ≡ Some groups → length groups ≡ 8
      → Spells (join_with_byte 58 written) (address_of_groups groups)
  shortened : (before after : List (List ℕ)) (first last : List ℕ) → each group_in before ≡ Some first → each group_in after ≡ Some last
      → length first + length last ≤ 7
      → Spells (join_with_byte 58 before ++ (58 ∷ 58 ∷ join_with_byte 58 after)) (address_of_groups (first
      ++ (replicate (8 - (length first + length last)) 0 ++ last)))

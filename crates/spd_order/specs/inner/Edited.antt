-- What a preview of an edited policy keeps.
use Rattle.std.specs.Prelude.{◌≡◌, ℕ, List, insert, length, remove, Option, Some, None, Bool, true, nat_le}
use Rattle.spd_line.specs.declared.line.LineParts.{LineParts}
use Rattle.spd_line.specs.Policy.{IsPolicy}

-- A list without the item at an index, where there is one.
abbrev pub without_item : {X : Type 0} → Option ℕ → List X → List X
without_item None xs = xs
without_item (Some index) xs = remove xs index

-- A list with a further item at an index, where there is one.
abbrev pub with_item : {X : Type 0} → Option (ℕ × X) → List X → List X
with_item None xs = xs
with_item (Some item) xs = insert xs item.0 item.1

-- The index of the further item is one up to the end.
abbrev pub may_hold : {X : Type 0} → Option (ℕ × X) → ℕ → Bool
may_hold None length = true
may_hold (Some item) length = nat_le item.0 length

-- The lines with the edit.
abbrev pub edited_lines : Option ℕ → Option (ℕ × LineParts) → List LineParts → List LineParts
edited_lines gone put lines = with_item put (without_item gone lines)

-- They are a policy of so many lines, and the further one stands among the others or behind them.
pub record IsEdited (gone : Option ℕ) (put : Option (ℕ × LineParts)) (count : ℕ) (lines : List LineParts) : Type 0 where
  pub policy : IsPolicy (edited_lines gone put lines)
  pub counted : count ≡ length (edited_lines gone put lines)
  pub place : may_hold put (length (without_item gone lines)) ≡ true

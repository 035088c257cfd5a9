-- Ranges of numbers: what an interval of addresses, protocols or fields stands for.
use Rattle.std.specs.Prelude.{ℕ, ◌+◌, ◌-◌, min, max, Bool, ◌&&◌, nat_le, nat_lt, List, [], ◌∷◌, ◌++◌, Option, Some, None, if◌then◌else◌}
use Rattle.std.specs.Option.{option_map_or}

-- a range: its least number, and how many more it has above that one
pub record Range : Type 0 where
  pub low : ℕ
  pub more : ℕ

-- its greatest number
abbrev pub high_of : Range → ℕ
high_of r = r.low + r.more

-- the range from one number up to another that isn't less, both included
abbrev pub range_from : ℕ → ℕ → Range
range_from low high = record { low = low; more = high - low }

-- the range from low up to high on the axis from 0 to last: none where low is the greater, or where
-- high is past the last
abbrev pub range_on : ℕ → ℕ → ℕ → Option Range
range_on last low high =
    if nat_le low high && nat_le high last then Some (range_from low high) else None

-- all numbers of the axis from 0 to last
abbrev pub whole_range : ℕ → Range
whole_range last = range_from 0 last

-- a range has each number from its low to its high
abbrev pub range_has : Range → ℕ → Bool
range_has r n = nat_le r.low n && nat_le n (high_of r)

abbrev pub range_low : Range → ℕ
range_low r = r.low

-- the numbers that both have: from the greater low to the lesser high
abbrev pub range_meet : Range → Range → Option Range
range_meet a b =
    let low = max a.low b.low in
    let high = min (high_of a) (high_of b) in
    if nat_le low high then Some (range_from low high) else None

-- both ends of a are in b
abbrev pub range_within : Range → Range → Bool
range_within a b = nat_le b.low a.low && nat_le (high_of a) (high_of b)

-- from the lesser low to the greater high: the numbers of both, and those between them
abbrev pub range_hull : Range → Range → Range
range_hull a b = range_from (min a.low b.low) (max (high_of a) (high_of b))

-- the numbers of a below b, where there are some
abbrev pub piece_below : Range → Range → List Range
piece_below a b = if nat_lt a.low b.low then range_from a.low (b.low - 1) ∷ [] else []

-- the numbers of a above b, where there are some
abbrev pub piece_above : Range → Range → List Range
piece_above a b =
    if nat_lt (high_of b) (high_of a) then range_from (high_of b + 1) (high_of a) ∷ [] else []

-- what is left of a without b: the piece below b, then the piece above it; a alone where they don't
-- meet
unfoldable pub range_minus : Range → Range → List Range
range_minus a b =
    option_map_or (λ common. piece_below a b ++ piece_above a b) (range_meet a b) (a ∷ [])

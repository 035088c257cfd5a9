-- What one read of a file gives, and what it does to the counts of what was handed out.
use Rattle.std.specs.Prelude.{◌≡◌, ℕ, ◌+◌, ◌<◌, ◌≤◌, List, length, take, drop, Result, Ok, Err}
use Rattle.pair_io.specs.Counts.{Rose}

-- The first n bytes of the slice are those at this place of the content; n is 0 only at or past its end, or for an empty slice.
pub record Gives (at n : ℕ) (into content : List ℕ) : Type 0 where
  pub bytes : take n into ≡ take n (drop at content)
  pub none : n ≡ 0 → 0 < length into → length content ≤ at

-- How many bytes were handed out, before and after a read that handed out n.
pub record Took (n before now : ℕ) : Type 0 where
  pub never_falls : before ≤ now
  pub some : 0 < n → Rose before now
  pub none : n ≡ 0 → now ≡ before

-- The place just behind the bytes handed out last, before and after a read that handed out the n bytes from a place on.
pub record Ended (at n before now : ℕ) : Type 0 where
  pub some : 0 < n → now ≡ at + n
  pub none : n ≡ 0 → now ≡ before

-- How many reads had room and gave nothing, before and after a read with so much room that handed out n.
pub record RanDry (room n before now : ℕ) : Type 0 where
  pub never_falls : before ≤ now
  pub dry : n ≡ 0 → 0 < room → Rose before now
  pub no_room : room ≡ 0 → now ≡ before
  pub some : 0 < n → now ≡ before

-- The same three by the answer of the read: where it failed, each number is as it was.
abbrev pub TookBy : {E : Type 0} → Result ℕ E → ℕ → ℕ → Type 0
TookBy (Ok n) before now = Took n before now
TookBy (Err _) before now = now ≡ before

abbrev pub EndedBy : {E : Type 0} → ℕ → Result ℕ E → ℕ → ℕ → Type 0
EndedBy at (Ok n) before now = Ended at n before now
EndedBy at (Err _) before now = now ≡ before

abbrev pub RanDryBy : {E : Type 0} → ℕ → Result ℕ E → ℕ → ℕ → Type 0
RanDryBy room (Ok n) before now = RanDry room n before now
RanDryBy room (Err _) before now = now ≡ before

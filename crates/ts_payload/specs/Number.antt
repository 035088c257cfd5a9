-- Numbers in network byte order: the first byte counts most.
use Rattle.std.specs.Prelude.{ℕ, ◌+◌, ◌*◌, List, [], ◌∷◌, take, drop}

-- The number that bytes write behind those that wrote another.
abbrev pub number_behind : ℕ → List ℕ → ℕ
number_behind number [] = number
number_behind number (byte ∷ bytes) = number_behind (number * 256 + byte) bytes

-- The number that bytes write.
abbrev pub number_of : List ℕ → ℕ
number_of bytes = number_behind 0 bytes

-- The bytes from a place on, which begins at 0, so many of them.
abbrev pub bytes_at : ℕ → ℕ → List ℕ → List ℕ
bytes_at place len bytes = take len (drop place bytes)

-- The number that these bytes write.
abbrev pub number_at : ℕ → ℕ → List ℕ → ℕ
number_at place len bytes = number_of (bytes_at place len bytes)

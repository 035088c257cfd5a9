-- What a policy is: lines in their order (RFC 4301 section 4.4.1).
use Rattle.std.specs.Prelude.{◌≢◌, ℕ, ◌≤◌, AllPairs, List, [], ◌∷◌, ◌++◌, codes, length, map}
use Rattle.spd_line.specs.declared.line.LineParts.{LineParts}

-- The most lines of a policy.
abbrev pub most_lines : ℕ
most_lines = 4096

-- The name of the line behind them all, which no other line has.
abbrev pub final_name : List ℕ
final_name = codes "final"

-- The names of some lines.
abbrev pub names : List LineParts → List (List ℕ)
names lines = map (λ (line : LineParts). line.name) lines

-- The same, and behind them that of the line `final`.
abbrev pub all_names : List LineParts → List (List ℕ)
all_names lines = names lines ++ final_name ∷ []

-- The lines of a policy: at most 4,096, and no two names are the same, `final` among them.
pub record IsPolicy (lines : List LineParts) : Type 0 where
  pub few : length lines ≤ most_lines
  pub distinct : AllPairs (λ x y. x ≢ y) (all_names lines)

-- What `check` accepts, said of packets, without a tree or a box.
use Rattle.std.specs.Prelude.{◌≡◌, ℕ, List, Option, Ok, codes}
use Rattle.pair_io.specs.Gains.{Gains}
use Rattle.spd_file.specs.Policy.{policy_meaning}
use Rattle.spd_line.specs.declared.line.LineParts.{LineParts}
use Rattle.spd_line.specs.Agree.{Agree}

-- Both contents are policies, which judge each packet that goes from A to B alike, and the text gained the line
-- `accepted`.
pub record IsAgreed (content_a content_b : List ℕ) (before now : Option (List ℕ)) : Type 0 where
  pub lines_a : List LineParts
  pub lines_b : List LineParts
  pub policy_a : policy_meaning content_a ≡ Ok lines_a
  pub policy_b : policy_meaning content_b ≡ Ok lines_b
  pub agree : Agree lines_a lines_b
  pub written : Gains before now (codes "accepted\n")

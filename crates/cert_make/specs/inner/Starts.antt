-- Where the searches in the boxes begin whose trees are still to come.
use Rattle.std.specs.Prelude.{List, [], ◌∷◌}
use Rattle.sel_box.specs.declared.any_box.AnyBox.{AnyBox}
use Rattle.sel_tree.specs.FirstMet.{NoneMet}
use Rattle.cert_text.specs.declared.node.Node.{Node}
use Rattle.cert_rows.specs.declared.side.Side.{Side}
use Rattle.cert_make.specs.declared.starts.Start.{Start}

-- That of the next box, and those of the boxes behind it. Where nothing is known they begin with the first boxes.
abbrev pub first_start : List Start → Start
first_start [] = record { ours = 0; theirs = 0 }
first_start (start ∷ starts) = start

abbrev pub without_first : List Start → List Start
without_first [] = []
without_first (start ∷ starts) = starts

-- Those of the boxes of the trees behind a node.
abbrev pub starts_behind : Node → Start → List Start
starts_behind (Node.Split axis value) start = start ∷ start ∷ []
starts_behind _ start = []

-- No box of either gateway before the start has a point of the box.
pub record IsStart (ours theirs : Side) (b : AnyBox) (start : Start) : Type 0 where
  pub of_ours : NoneMet 0 start.ours b ours.regions
  pub of_theirs : NoneMet 0 start.theirs b theirs.regions

-- So it is of each box for which a start stands.
abbrev pub AreStarts : Side → Side → List AnyBox → List Start → Type 0
AreStarts ours theirs boxes [] = Unit {0}
AreStarts ours theirs [] (start ∷ starts) = Unit {0}
AreStarts ours theirs (b ∷ boxes) (start ∷ starts) = IsStart ours theirs b start × AreStarts ours theirs boxes starts

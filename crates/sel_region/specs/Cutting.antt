-- Cutting a list of regions by others (RFC 4301 Appendix B).
use Rattle.std.specs.Prelude.{List, [], ◌∷◌}
use Rattle.std.specs.List.{flat_map}

-- what is left of each piece without a region, in the order of the pieces
abbrev pub cut_each : {R : Type 0} → (R → R → List R) → List R → R → List R
cut_each minus pieces region = flat_map (λ piece. minus piece region) pieces

-- what is left of some pieces without some regions, each taken out of all pieces before the next
abbrev pub cut_all : {R : Type 0} → (R → R → List R) → List R → List R → List R
cut_all minus pieces [] = pieces
cut_all minus pieces (region ∷ regions) = cut_all minus (cut_each minus pieces region) regions

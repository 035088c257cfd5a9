use Rattle.std.proofs.Common.{◌≡◌, ◌++◌, drop, flat_map}
use Rattle.ts_cover.specs.Pairs.{row_of}
use Rattle.ts_cover.proofs.pairing.pairs.Given as goal

-- What was put, and then the rows of the selectors that are left, are all rows.
abbrev pub invariant-loop-remote : goal.invariant-loop-remote
invariant-loop-remote l =
    l.list ++ flat_map (λ remote. row_of remote l.tsr) (drop l.remote-index l.tsi) ≡ flat_map (λ remote. row_of remote l.tsr) l.tsi

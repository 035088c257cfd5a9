use Rattle.std.proofs.Common.{◌≡◌, ◌++◌, drop}
use Rattle.ts_cover.specs.Pairs.{row_of}
use Rattle.ts_cover.proofs.pairing.put_row.Given as goal

-- What was put, and then the boxes with the selectors that are left, is what stood there and all boxes.
abbrev pub invariant-loop-local : goal.invariant-loop-local
invariant-loop-local l = l.list ++ row_of l.remote (drop l.local-index l.tsr) ≡ l.initial.list ++ row_of l.remote l.tsr

use Rattle.std.proofs.Common.{◌≡◌, ◌++◌, drop, flat_map}
use Rattle.ts_cover.specs.Writing.{cut_selector}
use Rattle.ts_cover.proofs.cutting.cut_selectors.Given as goal

-- What was put, and then the cut selectors that are left, are all cut selectors.
abbrev pub invariant-loop-selector : goal.invariant-loop-selector
invariant-loop-selector l =
    l.list ++ flat_map (cut_selector l.side) (drop l.selector-index l.selectors) ≡ flat_map (cut_selector l.side) l.selectors

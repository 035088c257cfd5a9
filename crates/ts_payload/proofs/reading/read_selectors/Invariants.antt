use Rattle.std.proofs.Common.{◌≡◌, ◌+◌, ◌-◌, ◌≤◌, length}
use Rattle.ts_payload.specs.Reading.{selectors_of, with_front}
use Rattle.ts_payload.specs.Selector.{AreSelectors}
use Rattle.ts_payload.proofs.reading.read_selectors.Given as goal

-- what is left, behind what was read, gives what all bytes give
abbrev pub invariant-loop-done : goal.invariant-loop-done
invariant-loop-done l = record {
  read : with_front l.list (selectors_of (l.count - l.done) (l.done + 1) l.rest) ≡ selectors_of l.count 1 l.bytes;
  selectors : AreSelectors l.list;
  few : length l.list ≤ l.done;
}

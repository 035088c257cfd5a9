use Rattle.std.proofs.Common.{◌≡◌, ◌*◌, ◌≤◌, length, take}
use Rattle.std.specs.List.{flat_map}
use Rattle.ts_payload.specs.Payload.{selector_bytes}
use Rattle.ts_payload.proofs.writing.bytes_of.Given as goal

abbrev pub invariant-loop-selector : goal.invariant-loop-selector
invariant-loop-selector l =
    (l.bytes ≡ flat_map selector_bytes (take l.selector-index l.selectors)) × (length l.bytes ≤ 40 * l.selector-index)

use Rattle.std.proofs.Common.{◌≡◌, ◌<◌, ◌^◌, drop}
use Rattle.ts_payload.specs.Number.{number_behind, number_of}
use Rattle.ts_payload.proofs.number.number_of.Given as goal

-- the bytes to come, behind those that wrote `number`, write the whole
abbrev pub invariant-loop-byte : goal.invariant-loop-byte
invariant-loop-byte l =
    (l.number < 256 ^ l.byte-index) × (number_behind l.number (drop l.byte-index l.bytes) ≡ number_of l.bytes)

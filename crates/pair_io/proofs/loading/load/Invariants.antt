use Rattle.std.proofs.Common.{◌≡◌, ◌≤◌, ◌+◌, ◌-◌, length}
use Rattle.std.specs.Prelude.{IfSome}
use Rattle.pair_io.specs.Counts.{NoneFell}
use Rattle.pair_io.proofs.Prefixes.{IsPrefix}
use Rattle.pair_io.proofs.loading.load.Given as goal

-- the bytes so far are a prefix of the content
abbrev pub invariant-loop-bytes : goal.invariant-loop-bytes
invariant-loop-bytes g l =
    let files = g.F.Files in
    record {
      told : files.told l.files ≡ files.told l.fn.files;
      prefix : IfSome (files.told l.fn.files l.name) (IsPrefix l.bytes);
      within : length l.bytes ≤ l.most;
      faults : NoneFell (files.faults l.fn.files) (files.faults l.files);
      taken : files.taken l.fn.files ≤ files.taken l.files;
      dry : files.dry l.fn.files ≤ files.dry l.files;
    }

-- each read gives a byte, until there are more than the most
abbrev pub decreases-loop-bytes : goal.decreases-loop-bytes
decreases-loop-bytes g l = l.most + 1 - length l.bytes

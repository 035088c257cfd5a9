use Rattle.std.proofs.Common.{◌≤◌, length, arith, ◌∙◌, length-append}
use Rattle.std.proofs.lemmas.List.{length-take-le}
use Rattle.pair_io.proofs.Prefixes.{IsPrefix-more}
use Rattle.pair_io.proofs.loading.load.Goals as goal

pub loop-bytes-preserved : goal.loop-bytes-preserved
loop-bytes-preserved g c =
    let known = g.F.Files.told c.args.files.now c.args.name.now in
    let before = c.loop-bytes.invariant in
    let read = c.in_ok-count.ensures in
    let count = c.in_ok-count.count in
    let piece = c.read.new.into in
    let fits : count ≤ length piece = omega arith in
    let given = rw (before.told, c.len-at.ensures) at read.content in
    record {
      told = read.told ∙ before.told;
      prefix = rw c.in_ok-extend.ensures.ok (IsPrefix-more known c.loop-bytes.bytes piece count fits before.prefix given);
      within = rw (c.in_ok-extend.ensures.ok, length-append, length-take-le count piece fits) (omega arith);
      faults = λ name. omega (arith, before.faults name, read.faults name);
      taken = omega (arith, before.taken, read.taken.never_falls);
      dry = omega (arith, before.dry, read.dry.never_falls);
    }

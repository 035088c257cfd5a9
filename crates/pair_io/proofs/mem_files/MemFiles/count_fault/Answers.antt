use Rattle.std.proofs.Common.{refl}
use Rattle.pair_io.proofs.Faults.{with_fault-placed, with_fault-missing}
use Rattle.pair_io.proofs.mem_files.MemFiles.count_fault.Goals as goal

pub returns-in-Some : goal.returns-in-Some
returns-in-Some c =
    let found = rw c.deref.ensures.value at c.in-Some.ensures in
    let files = c.self.inside.files.items in
    let missing = c.self.inside.missing in
    let file = c.index_mut-file in
    let placed = with_fault-placed c.args.name.now files c.in-Some.place missing file.result.now found file.ensures.value in
    rw (← c.self.view_is, c.one_more-file.ensures.value, placed.0, ← placed.1) refl

pub returns-in-None : goal.returns-in-None
returns-in-None c =
    let absent = with_fault-missing c.args.name.now c.self.inside.files.items c.self.inside.missing (rw c.deref.ensures.value at c.in-None.ensures) in
    rw (← c.self.view_is, c.one_more-self-inside.ensures.value, ← absent.0, ← absent.1) refl

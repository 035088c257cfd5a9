use Rattle.std.proofs.Common.{ap}
use Rattle.pair_io.specs.MemFiles.{content_of}
use Rattle.pair_io.specs.MemFiles.{HeldFiles}
use Rattle.pair_io.proofs.Faults.{told-with_fault}
use Rattle.pair_io.proofs.mem_files.MemFilesFiles.read.Goals as goal

pub returns-then-contains-clause-told : goal.returns-then-contains-clause-told
returns-then-contains-clause-told c =
    rw (c.count_fault.ensures, told-with_fault) (ap (λ (held : HeldFiles). content_of held.files) c.self.view_is)

pub returns-in-None-clause-told : goal.returns-in-None-clause-told
returns-in-None-clause-told c =
    rw (c.count_fault-in-None.ensures, told-with_fault) (ap (λ (held : HeldFiles). content_of held.files) c.self.view_is)

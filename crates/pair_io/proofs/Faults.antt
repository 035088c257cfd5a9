-- What one more fault of a name changes, and what it leaves.
use Rattle.std.proofs.Common.{◌≡◌, ℕ, ◌≤◌, ◌<◌, zero, suc, List, [], ◌∷◌, length, nat_lt, refl, sym, ap, arith, slice_index_or, slice_set}
use Rattle.std.specs.Prelude.{None, Some, position}
use Rattle.std.specs.List.{position_or_len}
use mathlib.Core.Path.{fun_ext}
use Rattle.std.proofs.lemmas.Bool.Decides.{nat_tests}
use Rattle.std.proofs.lemmas.Option.{cond_some, slice_get-get_or, slice_get_past}
use Rattle.std.proofs.lemmas.List.Folds.{find_at}
use Rattle.pair_io.specs.declared.mem_files.MemFile.{MemFile}
use Rattle.pair_io.specs.Counts.{Rose, one_more}
use Rattle.pair_io.specs.MemFiles.{has_name, file_of, content_of, faults_of, with_fault, with_missing}

one_more-rises : (count : ℕ) → Rose count (one_more count)
one_more-rises count = grind (arith, nat_tests)

one_more-grows : (count : ℕ) → count ≤ one_more count
one_more-grows count = grind (arith, nat_tests)

content_of-with_fault : (name other : List ℕ) (files : List MemFile) → content_of (with_fault name files) other ≡ content_of files other
content_of-with_fault name other [] = refl
content_of-with_fault name other (file ∷ files) = grind (arith, content_of-with_fault name other files)

pub told-with_fault : (name : List ℕ) (files : List MemFile) → content_of (with_fault name files) ≡ content_of files
told-with_fault name files = fun_ext (λ other. content_of-with_fault name other files)

-- the name's own count
faults_of-with_fault :
    (name : List ℕ) (files : List MemFile) (missing : ℕ) →
    faults_of (with_fault name files) (with_missing name files missing) name ≡ one_more (faults_of files missing name)
faults_of-with_fault name [] missing = refl
faults_of-with_fault name (file ∷ files) missing = grind (arith, faults_of-with_fault name files missing)

pub faults_of-rise :
    (name : List ℕ) (files : List MemFile) (missing : ℕ) →
    Rose (faults_of files missing name) (faults_of (with_fault name files) (with_missing name files missing) name)
faults_of-rise name files missing = rw faults_of-with_fault (one_more-rises (faults_of files missing name))

-- any name's count
pub faults_of-grow :
    (name other : List ℕ) (files : List MemFile) (missing : ℕ) →
    faults_of files missing other ≤ faults_of (with_fault name files) (with_missing name files missing) other
faults_of-grow name other [] missing = one_more-grows missing
faults_of-grow name other (file ∷ files) missing = grind (arith, faults_of-grow name other files missing, one_more-grows)

with_fault_at :
    (name : List ℕ) (files : List MemFile) (place : ℕ) (file : MemFile) →
    place ≡ position_or_len (has_name name) files → place < length files → file ≡ slice_index_or files place file →
    slice_set files place (record file { faults = one_more file.faults }) ≡ with_fault name files
with_fault_at name [] place file at within is = absurd (omega arith)
with_fault_at name (first ∷ files) zero file at within is = grind arith
with_fault_at name (first ∷ files) (suc place) file at within is = grind (arith, with_fault_at name files place file)

with_fault_absent : (name : List ℕ) (files : List MemFile) → length files ≤ position_or_len (has_name name) files → files ≡ with_fault name files
with_fault_absent name [] past = refl
with_fault_absent name (first ∷ files) past = grind (arith, with_fault_absent name files)

-- a write at the first file of a name
pub with_fault-placed :
    (name : List ℕ) (files : List MemFile) (place missing : ℕ) (file : MemFile) →
    Some place ≡ position (has_name name) files → file ≡ slice_index_or files place file →
    (slice_set files place (record file { faults = one_more file.faults }) ≡ with_fault name files) ×
    (missing ≡ with_missing name files missing)
with_fault-placed name files place missing file found is =
    let first = position_or_len (has_name name) files in
    let (below, at) = cond_some (nat_lt first (length files)) first place (sym found) in
    let within : place < length files = grind (arith, nat_tests) in
    let some : file_of files name ≡ Some file = rw (find_at, at, slice_get-get_or files place file within) (ap Some (sym is)) in
    (with_fault_at name files place file (sym at) within is, rw some refl)

-- where no file has the name
pub with_fault-missing :
    (name : List ℕ) (files : List MemFile) (missing : ℕ) → None ≡ position (has_name name) files →
    (files ≡ with_fault name files) × (one_more missing ≡ with_missing name files missing)
with_fault-missing name files missing none =
    let past : length files ≤ position_or_len (has_name name) files = grind (arith, nat_tests) in
    let absent : file_of files name ≡ None = rw find_at (slice_get_past files (position_or_len (has_name name) files) past) in
    (with_fault_absent name files past, rw absent refl)

pub ruleset fault_laws = (told-with_fault, faults_of-rise, faults_of-grow)

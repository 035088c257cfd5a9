-- Files in memory, by their names, and what was done with them.
use Rattle.std.specs.Prelude.{ℕ, Bool, cond, List, [], ◌∷◌, find, Option, option_map, is_none}
use Rattle.std.specs.Option.{option_map_or}
use Rattle.std.specs.Str.{bytes_eq}
use Rattle.pair_io.specs.Counts.{one_more}
use Rattle.pair_io.specs.declared.mem_files.MemFile.{MemFile}

-- the bytes of a file's name
abbrev pub file_name : MemFile → List ℕ
file_name file = file.name

-- the bytes of a file
abbrev pub file_bytes : MemFile → List ℕ
file_bytes file = file.bytes

-- how often a read of the file failed
abbrev pub file_faults : MemFile → ℕ
file_faults file = file.faults

-- whether a file has this name
abbrev pub has_name : List ℕ → MemFile → Bool
has_name name file = bytes_eq file.name name

-- the file of a name, which of two files with one name is the first
abbrev pub file_of : List MemFile → List ℕ → Option MemFile
file_of files name = find (has_name name) files

-- the bytes under a name
abbrev pub content_of : List MemFile → List ℕ → Option (List ℕ)
content_of files name = option_map file_bytes (file_of files name)

-- the count of faults of a name, where the names that no file has share one
abbrev pub faults_of : List MemFile → ℕ → List ℕ → ℕ
faults_of files missing name = option_map_or file_faults (file_of files name) missing

-- the files after one more fault of a name
abbrev pub with_fault : List ℕ → List MemFile → List MemFile
with_fault name [] = []
with_fault name (file ∷ files) =
    cond (has_name name file) (record file { faults = one_more file.faults } ∷ files) (file ∷ with_fault name files)

-- the count of all names that no file has, after one more fault of a name
abbrev pub with_missing : List ℕ → List MemFile → ℕ → ℕ
with_missing name files missing = cond (is_none (file_of files name)) (one_more missing) missing

-- The numbers of the reads that fail count from 1; `missing` is how often a read of a name that no file has failed.
pub record HeldFiles : Type 0 where
  pub files : List MemFile
  pub failing : List ℕ
  pub calls : ℕ
  pub missing : ℕ
  pub taken : ℕ
  pub end : ℕ
  pub dry : ℕ

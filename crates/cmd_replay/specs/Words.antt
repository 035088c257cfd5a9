-- The words of `replay LIMIT CACHE POLICY TRACE`.
use Rattle.std.specs.Str.{bytes_eq}
use Rattle.std.specs.Prelude.{ℕ, codes, List, [], ◌∷◌, Option, Some, None, if◌then◌else◌}
use Rattle.audit_frame.specs.Causes.{InputFile}
use Rattle.audit_frame.specs.Loading.{plain_file, policy_file}
use Rattle.audit_frame.specs.Words.{count_in, file_in, FileWord, most_limit}

-- A limit of the entries, a capacity of the cache, a policy and a trace.
pub record ReplayWords : Type 0 where
  pub limit : ℕ
  pub capacity : ℕ
  pub policy : FileWord
  pub trace : FileWord

-- The most groups that CACHE may allow.
abbrev pub most_capacity : ℕ
most_capacity = 4096

-- The command of these, where all are there.
abbrev pub command_of : Option ℕ → Option ℕ → Option FileWord → Option FileWord → Option ReplayWords
command_of (Some limit) (Some capacity) (Some policy) (Some trace) =
    Some (record { limit = limit; capacity = capacity; policy = policy; trace = trace })
command_of _ _ _ _ = None

-- The command of some words: `replay`, a limit, a capacity, and the names of a policy and of a trace, neither empty.
abbrev pub replay_in : List (List ℕ) → Option ReplayWords
replay_in (command ∷ limit ∷ capacity ∷ policy ∷ trace ∷ []) =
    if bytes_eq command (codes "replay")
    then command_of (count_in most_limit limit) (count_in most_capacity capacity) (file_in 4 policy) (file_in 5 trace)
    else None
replay_in _ = None

-- The most bytes of a trace.
abbrev pub most_trace : ℕ
most_trace = 67108864

-- The files that it reads.
abbrev pub replay_files : ReplayWords → List InputFile
replay_files command = policy_file command.policy ∷ plain_file command.trace most_trace ∷ []

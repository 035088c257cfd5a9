-- The populate-from-packet flags of a line (RFC 4301 section 4.4.1.2).
use Rattle.std.specs.Prelude.{ℕ, Bool, false, not, List, [], ◌∷◌, codes, Result, Ok, Err, if◌then◌else◌}
use Rattle.std.specs.List.{list_all, list_any}
use Rattle.std.specs.Str.{bytes_eq}
use Rattle.toml.specs.Data.{Data, string, array}
use Rattle.spd_line.specs.declared.line.Pfp.{Pfp}
use Rattle.spd_file.specs.declared.why.Why.{Why}
use Rattle.spd_file.specs.Values.{is_text, array_values}

abbrev pub no_flags : Pfp
no_flags = record { local = false; remote = false; protocol = false; local_port = false; remote_port = false }

-- The selectors that can have a flag.
abbrev pub is_flag_word : List ℕ → Bool
is_flag_word text = list_any (bytes_eq text)
    (codes "local" ∷ codes "remote" ∷ codes "protocol" ∷ codes "local_port" ∷ codes "remote_port" ∷ [])

-- The value names such a selector.
abbrev pub is_flag : Data → Bool
is_flag (string text) = is_flag_word text
is_flag _ = false

-- The value is this text.
abbrev pub says : List ℕ → Data → Bool
says word (string text) = bytes_eq text word
says word _ = false

-- The selectors that some values name, each as often as one likes.
abbrev pub flags_in : List Data → Result Pfp Why
flags_in values =
    if not (list_all is_text values) then Err Why.WrongKind
    else if not (list_all is_flag values) then Err Why.NotInGrammar
    else Ok record {
      local = list_any (says (codes "local")) values;
      remote = list_any (says (codes "remote")) values;
      protocol = list_any (says (codes "protocol")) values;
      local_port = list_any (says (codes "local_port")) values;
      remote_port = list_any (says (codes "remote_port")) values;
    }

-- The flags that an array names.
abbrev pub flags_of : Data → Result Pfp Why
flags_of (array items) = flags_in (array_values items)
flags_of _ = Err Why.WrongKind

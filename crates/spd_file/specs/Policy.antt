-- The lines of a policy file, or the first fault of the file.
use Rattle.std.specs.Prelude.{ℕ, ℤ, pos, negsuc, ◌+◌, Bool, ◌==◌, not, List, [], ◌∷◌, ◌++◌, length, nat_le, Option, Result, Ok, Err, if◌then◌else◌}
use Rattle.std.specs.List.{list_any}
use Rattle.std.specs.Str.{bytes_eq}
use Rattle.toml.specs.Data.{Data, integer, array, Members, get_member}
use Rattle.toml.specs.Parse.{parse_document}
use Rattle.spd_line.specs.declared.line.LineParts.{LineParts}
use Rattle.spd_line.specs.Policy.{most_lines, names}
use Rattle.spd_file.specs.declared.fault.PolicyFault.{PolicyFault}
use Rattle.spd_file.specs.declared.key.TopKey.{TopKey}
use Rattle.spd_file.specs.declared.why.Why.{Why}
use Rattle.spd_file.specs.Key.{top_key_text}
use Rattle.spd_file.specs.Line.{only_keys, line_of_value}
use Rattle.spd_file.specs.Parsed.{parsed}
use Rattle.spd_file.specs.Steps.{◌>>=◌, ◌>>◌}
use Rattle.spd_file.specs.Values.{optional, required, array_values}

-- The keys of a policy.
abbrev pub is_top_key : List ℕ → Bool
is_top_key text = list_any (λ known. bytes_eq text (top_key_text known)) (TopKey.Format ∷ TopKey.Line ∷ [])

-- The value at a key, where the key stands.
abbrev pub top_value : TopKey → Members → Option Data
top_value key members = get_member (top_key_text key) members

-- What is wrong with a key of the policy, as its fault.
abbrev pub at_top : {A : Type 0} → TopKey → Result A Why → Result A PolicyFault
at_top key (Ok value) = Ok value
at_top key (Err why) = Err (PolicyFault.Top key why)

-- The version of the form, which is 1.
abbrev pub format_number : ℤ → Result (Unit {0}) Why
format_number (pos number) = if number == 1 then Ok tt else Err Why.OutOfRange
format_number (negsuc number) = Err Why.OutOfRange

abbrev pub format_of : Data → Result (Unit {0}) Why
format_of (integer number) = format_number number
format_of _ = Err Why.WrongKind

-- The values of an array.
abbrev pub array_of : Data → Result (List Data) Why
array_of (array items) = Ok (array_values items)
array_of _ = Err Why.WrongKind

-- One more line, whose name no earlier line may have.
abbrev pub added : List LineParts → LineParts → Result (List LineParts) PolicyFault
added lines line =
    if list_any (bytes_eq line.name) (names lines) then Err (PolicyFault.DuplicateName (length lines + 1))
    else Ok (lines ++ line ∷ [])

-- The lines that some values are, behind others.
abbrev pub lines_behind : List LineParts → List Data → Result (List LineParts) PolicyFault
lines_behind lines [] = Ok lines
lines_behind lines (value ∷ values) = do
  line ← line_of_value (length lines + 1) value
  more ← added lines line
  lines_behind more values

-- The lines of some values, which are at most 4,096.
abbrev pub policy_lines : List Data → Result (List LineParts) PolicyFault
policy_lines values = if nat_le (length values) most_lines then lines_behind [] values else Err PolicyFault.TooManyLines

-- The lines of a document, by the members of its table.
abbrev pub policy_of : Members → Result (List LineParts) PolicyFault
policy_of members =
    if not (only_keys is_top_key members) then Err (PolicyFault.Top TopKey.Unknown Why.NotHere) else do
      at_top TopKey.Format (required format_of (top_value TopKey.Format members))
      values ← at_top TopKey.Line (optional [] array_of (top_value TopKey.Line members))
      policy_lines values

-- The lines of a policy file.
abbrev pub policy_meaning : List ℕ → Result (List LineParts) PolicyFault
policy_meaning bytes = parsed parse_document bytes >>= policy_of

-- The lines of some values, as their reader counts them.
use Rattle.std.proofs.Common.{◌≡◌, ℕ, ◌+◌, ◌<◌, ◌≤◌, List, [], ◌∷◌, ◌++◌, length, get_or, drop, nat_le, true, false, Ok, Err, arith}
use Rattle.std.specs.Prelude.{map}
use Rattle.std.specs.List.{list_any}
use Rattle.std.specs.Str.{bytes_eq}
use Rattle.std.proofs.lemmas.Bool.Decides.{nat_tests}
use Rattle.std.proofs.lemmas.List.{drop_more, length-map}
use Rattle.toml.specs.View.{items_view, view}
use Rattle.toml.specs.declared.value.Value.{Value}
use Rattle.spd_file.specs.declared.fault.PolicyFault.{PolicyFault}
use Rattle.spd_line.specs.declared.line.LineParts.{LineParts}
use Rattle.spd_file.specs.Line.{line_of_value}
use Rattle.spd_line.specs.Policy.{most_lines, names}
use Rattle.spd_file.specs.Policy.{lines_behind, policy_lines}
use Rattle.spd_file.specs.Values.{array_values}
use Rattle.spd_file.proofs.Tables.{array_values-view}

pub policy_lines-many : (values : List Value) → most_lines < length values → policy_lines (array_values (items_view values)) ≡ Err PolicyFault.TooManyLines
policy_lines-many values many =
    let over : nat_le (length values) most_lines ≡ false = grind (arith, nat_tests) in
    rw (array_values-view, length-map, over)

pub policy_lines-few : (values : List Value) → length values ≤ most_lines → policy_lines (array_values (items_view values)) ≡ lines_behind [] (map view values)
policy_lines-few values few =
    let within : nat_le (length values) most_lines ≡ true = grind (arith, nat_tests) in
    rw (array_values-view, length-map, within)

-- A line whose name is new goes behind the others.
pub lines_behind-more : (lines : List LineParts) (values : List Value) (i : ℕ) (value : Value) (line : LineParts)
    → i < length values → value ≡ get_or values i value
    → line_of_value (length lines + 1) (view value) ≡ Ok line → list_any (bytes_eq line.name) (names lines) ≡ false
    → lines_behind lines (map view (drop i values)) ≡ lines_behind (lines ++ line ∷ []) (map view (drop (i + 1) values))
lines_behind-more lines values i value line within here is new = rw (drop_more values i value within, ← here, is, new)

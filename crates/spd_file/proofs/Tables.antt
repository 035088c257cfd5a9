-- The keys and the values of TOML data, as `toml` gives them.
use Rattle.std.proofs.Common.{◌≡◌, ℕ, Bool, List, [], ◌∷◌, ◌&&◌, String, Global, string_bytes, refl, ap}
use Rattle.std.specs.List.{list_all}
use Rattle.std.specs.Prelude.{map}
use Rattle.toml.specs.View.{items_view, members_view, view}
use Rattle.toml.specs.declared.value.Value.{Value}
use Rattle.spd_file.specs.Line.{only_keys}
use Rattle.spd_file.specs.Values.{array_values}

pub only_keys-keys : (test : List ℕ → Bool) (entries : List (String Global × Value))
    → only_keys test (members_view entries) ≡ list_all (λ key. test (string_bytes key)) (map (λ e. e.0) entries)
only_keys-keys test [] = refl
only_keys-keys test (e ∷ es) = ap (λ rest. test (string_bytes e.0) && rest) (only_keys-keys test es)

-- The values of an array are those of its items.
pub array_values-view : (items : List Value) → array_values (items_view items) ≡ map view items
array_values-view [] = refl
array_values-view (v ∷ vs) = ap (λ rest. view v ∷ rest) (array_values-view vs)

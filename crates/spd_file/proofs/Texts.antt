-- Arrays of texts, as their readers see them.
use Rattle.std.proofs.Common.{◌≡◌, ℕ, Bool, true, false, ◌||◌, List, [], ◌∷◌, length, ◌==◌, Result, Ok, Err, codes, refl, ap}
use Rattle.std.specs.List.{list_all, list_any}
use Rattle.std.specs.Prelude.{map}
use Rattle.std.proofs.lemmas.List.{length-map}
use Rattle.std.proofs.lemmas.List.Folds.{list_all-map}
use Rattle.toml.specs.View.{items_view, view}
use Rattle.toml.specs.declared.value.Value.{Value}
use Rattle.sel_text.specs.declared.fault.TextFault.{TextFault}
use Rattle.spd_file.specs.declared.why.Why.{Why}
use Rattle.spd_file.specs.Flags.{flags_in, is_flag, says}
use Rattle.spd_file.specs.Steps.{all_read}
use Rattle.spd_file.specs.Values.{text_by_grammar, is_text, texts_in, array_values}
use Rattle.spd_file.proofs.Tables.{array_values-view}

list_any-map : {X Y : Type 0} (test : X → Bool) (f : Y → X) (ys : List Y) → list_any test (map f ys) ≡ list_any (λ y. test (f y)) ys
list_any-map test f [] = refl
list_any-map test f (y ∷ ys) = ap (λ rest. test (f y) || rest) (list_any-map test f ys)

module _ {A : Type 0} (meaning : List ℕ → Result A TextFault) (values : List Value) where
  pub texts_in-mixed : list_all (λ value. is_text (view value)) values ≡ false → texts_in meaning (array_values (items_view values)) ≡ Err Why.WrongKind
  texts_in-mixed mixed = rw (array_values-view, list_all-map, mixed)

  pub texts_in-empty : list_all (λ value. is_text (view value)) values ≡ true → (length values == 0) ≡ true
      → texts_in meaning (array_values (items_view values)) ≡ Err Why.Empty
  texts_in-empty texts empty = rw (array_values-view, list_all-map, texts, length-map, empty)

  pub texts_in-each : list_all (λ value. is_text (view value)) values ≡ true → (length values == 0) ≡ false
      → texts_in meaning (array_values (items_view values)) ≡ all_read (text_by_grammar meaning) (map view values)
  texts_in-each texts some = rw (array_values-view, list_all-map, texts, length-map, some)

module _ (values : List Value) where
  pub flags_in-mixed : list_all (λ value. is_text (view value)) values ≡ false → flags_in (array_values (items_view values)) ≡ Err Why.WrongKind
  flags_in-mixed mixed = rw (array_values-view, list_all-map, mixed)

  pub flags_in-other : list_all (λ value. is_text (view value)) values ≡ true → list_all (λ value. is_flag (view value)) values ≡ false
      → flags_in (array_values (items_view values)) ≡ Err Why.NotInGrammar
  flags_in-other texts other = rw (array_values-view, list_all-map is_text view values, texts, list_all-map is_flag view values, other)

  abbrev pub has : List ℕ → Bool
  has word = list_any (λ value. says word (view value)) values

  pub flags_in-words : list_all (λ value. is_text (view value)) values ≡ true → list_all (λ value. is_flag (view value)) values ≡ true
      → flags_in (array_values (items_view values)) ≡ Ok record {
        local = has (codes "local");
        remote = has (codes "remote");
        protocol = has (codes "protocol");
        local_port = has (codes "local_port");
        remote_port = has (codes "remote_port");
      }
  flags_in-words texts flags = rw (array_values-view, list_all-map is_text view values, texts, list_all-map is_flag view values, flags) (simp list_any-map)

pub ruleset texts_lemmas = (texts_in-mixed, texts_in-empty, texts_in-each)

pub ruleset flags_lemmas = (flags_in-mixed, flags_in-other, flags_in-words)

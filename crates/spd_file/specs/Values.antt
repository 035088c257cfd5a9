-- What the value of a key means, by the kind of value that the key takes.
use Rattle.std.specs.Prelude.{ℕ, Bool, List, [], ◌∷◌, length, ◌==◌, Option, Some, None, is_some, Result, Ok, Err, if◌then◌else◌, not}
use Rattle.std.specs.List.{list_all}
use Rattle.std.specs.Option.{ok_or}
use Rattle.toml.specs.Data.{Data, array, Items, no_items, item, as_str}
use Rattle.sel_text.specs.declared.fault.TextFault.{TextFault}
use Rattle.spd_file.specs.declared.why.Why.{Why}
use Rattle.spd_file.specs.Steps.{◌>>=◌, all_read}
use Rattle.spd_file.specs.Why.{why_of}

-- A key that must stand.
abbrev pub required : {A : Type 0} → (Data → Result A Why) → Option Data → Result A Why
required meaning None = Err Why.Missing
required meaning (Some value) = meaning value

-- A key that needn't stand, and what its absence means.
abbrev pub optional : {A : Type 0} → A → (Data → Result A Why) → Option Data → Result A Why
optional absent meaning None = Ok absent
optional absent meaning (Some value) = meaning value

-- A key that mustn't stand.
abbrev pub forbidden : Option Data → Result (Unit {0}) Why
forbidden None = Ok tt
forbidden (Some value) = Err Why.NotHere

-- A text, of any bytes.
abbrev pub as_text : Data → Result (List ℕ) Why
as_text value = ok_or (as_str value) Why.WrongKind

-- A text that means something.
abbrev pub of_text : {A : Type 0} → (List ℕ → Result A Why) → Data → Result A Why
of_text meaning value = as_text value >>= meaning

-- What a text means by its grammar.
abbrev pub by_grammar : {A : Type 0} → Result A TextFault → Result A Why
by_grammar (Ok value) = Ok value
by_grammar (Err fault) = Err (why_of fault)

-- A text that its grammar reads.
abbrev pub text_by_grammar : {A : Type 0} → (List ℕ → Result A TextFault) → Data → Result A Why
text_by_grammar meaning value = of_text (λ text. by_grammar (meaning text)) value

-- The values of an array, in order.
abbrev pub array_values : Items → List Data
array_values no_items = []
array_values (item value items) = value ∷ array_values items

abbrev pub is_text : Data → Bool
is_text value = is_some (as_str value)

-- One or more values, all of them texts, and what each means.
abbrev pub texts_in : {A : Type 0} → (List ℕ → Result A TextFault) → List Data → Result (List A) Why
texts_in meaning values =
    if not (list_all is_text values) then Err Why.WrongKind
    else if length values == 0 then Err Why.Empty
    else all_read (text_by_grammar meaning) values

-- A text, or an array of one or more texts, and what each means.
abbrev pub texts_of : {A : Type 0} → (List ℕ → Result A TextFault) → Data → Result (List A) Why
texts_of meaning (array items) = texts_in meaning (array_values items)
texts_of meaning value = do
  only ← text_by_grammar meaning value
  Ok (only ∷ [])

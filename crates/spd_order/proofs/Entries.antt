-- Edits of the table are those edits of the lines, and keep each line under its name.
use Rattle.std.proofs.Common.{◌≡◌, ℕ, suc, ◌+◌, ◌-◌, ◌<◌, ◌≤◌, Bool, true, false, ◌||◌, List, [], ◌∷◌, ◌++◌, length, get_or, map, take, drop, Option, Some}
use Rattle.std.proofs.Common.{None, is_some, refl, sym, ◌∙◌, ap, ⊎_elim, arith}
use Rattle.std.specs.Prelude.{insert, remove, slice_get, option_map, position}
use Rattle.std.specs.List.{list_any, position_or_len}
use Rattle.std.specs.Map.{keys_of, lookup, values_of}
use Rattle.std.specs.Str.{bytes_eq}
use Rattle.std.proofs.Math.Bool.{or-false}
use Rattle.std.proofs.lemmas.Bool.{or_parts}
use Rattle.std.proofs.lemmas.List.{drop-map, length-map, map-append, take-map}
use Rattle.std.proofs.lemmas.List.Folds.{list_any-append}
use Rattle.std.proofs.lemmas.Map.Made.{is_some-lookup}
use Rattle.std.proofs.lemmas.Option.{slice_get-map, slice_get_cases}
use Rattle.indexmap.proofs.CallerLemmas.{insert_entry-new}
use Rattle.indexmap.specs.IndexMap.{get, index_of_by, insert_entry, insert_index, move_index, IndexMap}
use Rattle.spd_line.specs.declared.line.LineParts.{LineParts}
use Rattle.spd_line.specs.Policy.{final_name, most_lines, names}
use Rattle.spd_order.specs.Edits.{is_place, moved_item}
use Rattle.spd_order.specs.inner.Kept.{HoldsPolicy}
use Rattle.spd_order.specs.Names.{index_in, is_taken}
use Rattle.spd_order.proofs.MayEdit.{place_within, MayInsert}
use Rattle.spd_order.proofs.Policies.{policy-insert, policy-moved, policy-remove}

pub map-insert : {A B : Type 0} (f : A → B) (xs : List A) (index : ℕ) (x : A) → map f (insert xs index x) ≡ insert (map f xs) index (f x)
map-insert f xs index x = rw (map-append f (take index xs) (x ∷ drop index xs), take-map f index xs, drop-map f index xs) refl

pub map-remove : {A B : Type 0} (f : A → B) (xs : List A) (index : ℕ) → map f (remove xs index) ≡ remove (map f xs) index
map-remove f xs index = rw (map-append f (take index xs) (drop (suc index) xs), take-map f index xs, drop-map f (suc index) xs) refl

-- An entry of the table, its key and its line.
abbrev pub Entry : Type 0
Entry = List ℕ × LineParts

abbrev key : Entry → List ℕ
key e = e.0

abbrev value : Entry → LineParts
value e = e.1

abbrev name : LineParts → List ℕ
name line = line.name

-- The line at an index.
pub slice_get_values : (es : List Entry) (index : ℕ) → slice_get (values_of es) index ≡ option_map (λ (e : Entry). e.1) (slice_get es index)
slice_get_values es index = slice_get-map value es index

value_at : (es : List Entry) (index : ℕ) (e : Entry) → slice_get es index ≡ Some e → slice_get (values_of es) index ≡ Some e.1
value_at es index e at = slice_get_values es index ∙ ap (option_map value) at

-- The entry at an index has its line's own name.
own_at : (es : List Entry) (index : ℕ) (e : Entry) → keys_of es ≡ names (values_of es) → slice_get es index ≡ Some e → e.0 ≡ e.1.name
own_at es index e own at =
    let kept : slice_get (keys_of es) index ≡ Some e.0 = slice_get-map key es index ∙ ap (option_map key) at in
    let lined : slice_get (names (values_of es)) index ≡ Some e.1.name = slice_get-map name (values_of es) index
    ∙ ap (option_map name) (value_at es index e at) in
    let same : slice_get (keys_of es) index ≡ slice_get (names (values_of es)) index = ap (λ (ks : List (List ℕ)). slice_get ks index) own in
    cc

-- The keys and the lines after an edit.
keys-insert : (es : List Entry) (index : ℕ) (e : Entry) → keys_of (insert es index e) ≡ insert (keys_of es) index e.0
keys-insert es index e = map-insert key es index e

values-insert : (es : List Entry) (index : ℕ) (e : Entry) → values_of (insert es index e) ≡ insert (values_of es) index e.1
values-insert es index e = map-insert value es index e

names-insert : (lines : List LineParts) (index : ℕ) (line : LineParts) → names (insert lines index line) ≡ insert (names lines) index line.name
names-insert lines index line = map-insert name lines index line

keys-remove : (es : List Entry) (index : ℕ) → keys_of (remove es index) ≡ remove (keys_of es) index
keys-remove es index = map-remove key es index

values-remove : (es : List Entry) (index : ℕ) → values_of (remove es index) ≡ remove (values_of es) index
values-remove es index = map-remove value es index

names-remove : (lines : List LineParts) (index : ℕ) → names (remove lines index) ≡ remove (names lines) index
names-remove lines index = map-remove name lines index

pub length-values : (es : List Entry) → length (values_of es) ≡ length es
length-values es = length-map es value

own-insert : (es : List Entry) (index : ℕ) (e : Entry) → e.0 ≡ e.1.name → keys_of es ≡ names (values_of es)
    → keys_of (insert es index e) ≡ names (values_of (insert es index e))
own-insert es index e self own =
    rw (keys-insert es index e, values-insert es index e, names-insert (values_of es) index e.1, own, self) refl

own-remove : (es : List Entry) (index : ℕ) → keys_of es ≡ names (values_of es) → keys_of (remove es index) ≡ names (values_of (remove es index))
own-remove es index own =
    rw (keys-remove es index, values-remove es index, names-remove (values_of es) index, own) refl

pub keeps-insert : (es : List Entry) (index : ℕ) (line : LineParts) → index ≤ length es → length es < most_lines → is_taken line.name (values_of es) ≡ false
    → HoldsPolicy es → HoldsPolicy (insert es index (line.name, line))
keeps-insert es index line within few free keeps =
    let many : length (values_of es) ≡ length es = length-values es in
    record {
      own = own-insert es index (line.name, line) refl keeps.own;
      policy = rw (values-insert es index (line.name, line)) (policy-insert (values_of es) index line (omega arith) (omega arith) free keeps.policy);
    }

pub keeps-remove : (es : List Entry) (index : ℕ) (line : LineParts) → slice_get (values_of es) index ≡ Some line → HoldsPolicy es
    → HoldsPolicy (remove es index)
keeps-remove es index line at keeps = record {
  own = own-remove es index keeps.own;
  policy = rw (values-remove es index) (policy-remove (values_of es) index line at keeps.policy);
}

pub keeps-moved : (es : List Entry) (from to : ℕ) (e : Entry) → slice_get es from ≡ Some e → to < length es → HoldsPolicy es
    → HoldsPolicy (insert (remove es from) to e)
keeps-moved es from to e at there keeps =
    let many : length (values_of es) ≡ length es = length-values es in
    record {
      own = own-insert (remove es from) to e (own_at es from e keeps.own at) (own-remove es from keeps.own);
      policy = rw (values-insert (remove es from) to e, values-remove es from)
          (policy-moved (values_of es) from to e.1 (value_at es from e at) (omega arith) keeps.policy);
    }

-- A name is taken where the table has it, or where it is `final`.
pub taken_by_table : (es : List Entry) (name : List ℕ) → keys_of es ≡ names (values_of es)
    → is_taken name (values_of es) ≡ (is_some (lookup (bytes_eq name) es) || bytes_eq name final_name)
taken_by_table es name own =
    list_any-append (bytes_eq name) (names (values_of es)) (final_name ∷ [])
    ∙ ap (λ (had : Bool). had || (bytes_eq name final_name || false)) (ap (list_any (bytes_eq name)) (sym own) ∙ sym (is_some-lookup (bytes_eq name) es))
    ∙ ap (λ (last : Bool). is_some (lookup (bytes_eq name) es) || last) (or-false (bytes_eq name final_name))

none_of : {A : Type 0} (found : Option A) → is_some found ≡ false → found ≡ None
none_of None none = refl
none_of (Some x) none = cc

-- So the table lacks a name that isn't taken.
pub absent : (es : List Entry) (name : List ℕ) → keys_of es ≡ names (values_of es) → is_taken name (values_of es) ≡ false → lookup (bytes_eq name) es ≡ None
absent es name own free =
    none_of (lookup (bytes_eq name) es) (or_parts (is_some (lookup (bytes_eq name) es)) (bytes_eq name final_name)
    (sym (taken_by_table es name own) ∙ free)).0

where_absent : (test : List ℕ → Bool) (ks : List (List ℕ)) → list_any test ks ≡ false → position_or_len test ks ≡ length ks
where_absent test [] none = refl
where_absent test (k ∷ ks) none =
    let parts = or_parts (test k) (list_any test ks) none in
    rw parts.0 (omega (arith, where_absent test ks parts.1))

at_end : (es : List Entry) (e : Entry) → slice_get (es ++ e ∷ []) (length es) ≡ Some e
at_end [] e = refl
at_end (x ∷ es) e = at_end es e

without_end : (es : List Entry) (e : Entry) → remove (es ++ e ∷ []) (length es) ≡ es
without_end [] e = refl
without_end (x ∷ es) e = ap (λ (rest : List Entry). x ∷ rest) (without_end es e)

-- An entry that is put at the end and then moved to an index stands there.
moved_from_end : (es : List Entry) (index : ℕ) (e : Entry) → move_index (es ++ e ∷ []) (length es) index ≡ insert es index e
moved_from_end es index e = rw (at_end es e, without_end es e) refl

-- So does one under a name that the table lacks.
pub put_new : {S : Type 0} (m : IndexMap (List ℕ) LineParts S) (index : ℕ) (line : LineParts) → get bytes_eq m line.name ≡ None
    → move_index (insert_entry bytes_eq m.entries line.name line) (insert_index bytes_eq m line.name) index ≡ insert m.entries index (line.name, line)
put_new m index line gone =
    let es = m.entries in
    let none : list_any (bytes_eq line.name) (keys_of es) ≡ false = sym (is_some-lookup (bytes_eq line.name) es) ∙ ap is_some gone in
    let end : insert_index bytes_eq m line.name ≡ length es = where_absent (bytes_eq line.name) (keys_of es) none ∙ length-map es key in
    rw (insert_entry-new bytes_eq m line.name line gone, end) (moved_from_end es index (line.name, line))

-- Where the table finds a name, its line stands in the list.
pub found_in_table : {S : Type 0} (m : IndexMap (List ℕ) LineParts S) (name : List ℕ) (index : ℕ) (lines : List LineParts) → values_of m.entries ≡ lines
    → keys_of m.entries ≡ names (values_of m.entries) → Some index ≡ index_of_by (bytes_eq name) m → index_in name lines ≡ Some index
found_in_table m name index lines are own found =
    ap (λ (ls : List LineParts). index_in name ls) (sym are) ∙ ap (position (bytes_eq name)) (sym own) ∙ sym found

-- The entries are a table of these lines.
pub record IsTableOf (lines : List LineParts) (es : List Entry) : Type 0 where
  pub keeps : HoldsPolicy es
  pub lines_are : values_of es ≡ lines

-- The table after a line is put in, is taken out, is moved.
pub put_in : (old es : List Entry) (place : ℕ) (line : LineParts) (lines : List LineParts) → values_of old ≡ lines → HoldsPolicy old
    → MayInsert place line lines
    → es ≡ insert old (place - 1) (line.name, line) → IsTableOf (insert lines (place - 1) line) es
put_in old es place line lines are keeps may put =
    let many : length (values_of old) ≡ length old = length-values old in
    let same : length (values_of old) ≡ length lines = ap length are in
    let few : length lines < most_lines = may.few in
    let last : place ≤ length lines + 1 = may.last in
    record {
      keeps = rw put (keeps-insert old (place - 1) line (omega arith) (omega arith) (rw are may.free) keeps);
      lines_are = rw (put, values-insert old (place - 1) (line.name, line), are) refl;
    }

pub taken_out : (old es : List Entry) (index : ℕ) (line : LineParts) (lines : List LineParts) → values_of old ≡ lines → HoldsPolicy old
    → slice_get (values_of old) index ≡ Some line → es ≡ remove old index → IsTableOf (remove lines index) es
taken_out old es index line lines are keeps at out = record {
  keeps = rw out (keeps-remove old index line at keeps);
  lines_are = rw (out, values-remove old index, are) refl;
}

pub moved_to : (old es : List Entry) (from place : ℕ) (lines : List LineParts) → values_of old ≡ lines → HoldsPolicy old → from < length old
    → is_place place (length lines) ≡ true → es ≡ moved_item from (place - 1) old → IsTableOf (moved_item from (place - 1) lines) es
moved_to old es from place lines are keeps within fits moved =
    ⊎_elim there (λ past. absurd (omega arith)) (slice_get_cases old from).1
  where
    there : (e : Entry) × (from < length old) × (slice_get old from ≡ Some e) × (get_or old from e ≡ e) → IsTableOf (moved_item from (place - 1) lines) es
    there found =
        let e = found.0 in
        let on = place_within place (length lines) fits in
        let many : length (values_of old) ≡ length old = length-values old in
        let same : length (values_of old) ≡ length lines = ap length are in
        let line : slice_get lines from ≡ Some e.1 = ap (λ (ls : List LineParts). slice_get ls from) (sym are) ∙ value_at old from e found.2 in
        let is : es ≡ insert (remove old from) (place - 1) e = rw found.2 at moved in
        record {
          keeps = rw is (keeps-moved old from (place - 1) e found.2 (omega arith) keeps);
          lines_are = rw (is, line, values-insert (remove old from) (place - 1) e, values-remove old from, are) refl;
        }

-- Edits keep a policy: no two names are the same, in whatever order the lines stand.
use Rattle.std.proofs.Common.{◌≡◌, ℕ, ◌<◌, ◌≤◌, false, List, [], ◌∷◌, length, Some, sym, arith}
use Rattle.std.specs.Prelude.{insert, remove, slice_get, IsPermutation}
use Rattle.std.specs.List.{AllByRecursion, IsDistinct, list_any}
use Rattle.std.specs.Str.{bytes_eq}
use Rattle.std.proofs.lemmas.Bool.{or_parts}
use Rattle.std.proofs.lemmas.Cmp.{nat_list_eq_equiv}
use Rattle.std.proofs.lemmas.List.Edits.{length-insert, length-remove}
use Rattle.std.proofs.lemmas.List.Sorted.{IsPermutation-append_left, IsPermutation-insert, IsPermutation-map, IsPermutation-remove, IsPermutation-trans}
use Rattle.std.proofs.lemmas.Map.Keys.{IsDistinct-cons, IsDistinct-IsPermutation, IsDistinct-tail}
use Rattle.std.proofs.lemmas.Map.Made.{AllPairs-from_IsDistinct, IsDistinct-from_AllPairs}
use Rattle.std.proofs.lemmas.Option.{get_or_from_slice_get, slice_get_within}
use Rattle.std.proofs.lemmas.Slice.Eq.{bytes_eq-Decides}
use Rattle.spd_line.specs.declared.line.LineParts.{LineParts}
use Rattle.spd_line.specs.Policy.{IsPolicy, all_names, final_name, most_lines, names}
use Rattle.spd_order.specs.Names.{is_taken}

-- No two names are the same, by the test that the table makes.
abbrev pub Apart : List LineParts → Type 0
Apart lines = IsDistinct bytes_eq (all_names lines)

pub apart-policy : (lines : List LineParts) → IsPolicy lines → Apart lines
apart-policy lines policy = IsDistinct-from_AllPairs bytes_eq-Decides (all_names lines) policy.distinct

pub policy-apart : (lines : List LineParts) → length lines ≤ most_lines → Apart lines → IsPolicy lines
policy-apart lines few apart = record {
  few = few;
  distinct = AllPairs-from_IsDistinct bytes_eq-Decides (all_names lines) apart;
}

-- Where no name of a list is this one, each differs from it.
pub none_passes : (name : List ℕ) (others : List (List ℕ)) → list_any (bytes_eq name) others ≡ false
    → AllByRecursion (λ other. bytes_eq name other ≡ false) others
none_passes name [] free = tt
none_passes name (other ∷ others) free =
    let parts = or_parts (bytes_eq name other) (list_any (bytes_eq name) others) free in
    (parts.0, none_passes name others parts.1)

-- All names of lines in another order are those names in another order.
all_names-permuted : (xs ys : List LineParts) → IsPermutation xs ys → IsPermutation (all_names xs) (all_names ys)
all_names-permuted xs ys same =
    IsPermutation-append_left (final_name ∷ []) (names xs) (names ys) (IsPermutation-map (λ (line : LineParts). line.name) xs ys same)

apart-permuted : (xs ys : List LineParts) → IsPermutation xs ys → Apart xs → Apart ys
apart-permuted xs ys same apart =
    IsDistinct-IsPermutation bytes_eq nat_list_eq_equiv.symm (all_names xs) (all_names ys) (all_names-permuted xs ys same) apart

pub policy-insert : (lines : List LineParts) (index : ℕ) (line : LineParts) → index ≤ length lines → length lines < most_lines
    → is_taken line.name lines ≡ false → IsPolicy lines → IsPolicy (insert lines index line)
policy-insert lines index line within few free policy =
    policy-apart (insert lines index line) (let more = length-insert lines index line within in omega arith)
    (apart-permuted (line ∷ lines) (insert lines index line) (IsPermutation-insert lines index line)
    (IsDistinct-cons bytes_eq line.name (all_names lines) (none_passes line.name (all_names lines) free) (apart-policy lines policy)))

-- The lines without one and that one are the lines, in whatever order.
taken_out : (lines : List LineParts) (index : ℕ) (line : LineParts) → slice_get lines index ≡ Some line → IsPermutation lines (line ∷ remove lines index)
taken_out lines index line at =
    IsPermutation-remove lines index line (slice_get_within lines index line at) (sym (get_or_from_slice_get lines index line line at))

pub policy-remove : (lines : List LineParts) (index : ℕ) (line : LineParts) → slice_get lines index ≡ Some line → IsPolicy lines → IsPolicy (remove lines index)
policy-remove lines index line at policy =
    let within : index < length lines = slice_get_within lines index line at in
    policy-apart (remove lines index) (let less = length-remove lines index within in let few = policy.few in omega arith)
    (IsDistinct-tail bytes_eq line.name (all_names (remove lines index))
    (apart-permuted lines (line ∷ remove lines index) (taken_out lines index line at) (apart-policy lines policy)))

pub policy-moved : (lines : List LineParts) (from to : ℕ) (line : LineParts) → slice_get lines from ≡ Some line → to < length lines → IsPolicy lines
    → IsPolicy (insert (remove lines from) to line)
policy-moved lines from to line at there policy =
    let within : from < length lines = slice_get_within lines from line at in
    let less = length-remove lines from within in
    let few : length lines ≤ most_lines = policy.few in
    let more = length-insert (remove lines from) to line (omega arith) in
    policy-apart (insert (remove lines from) to line) (omega arith)
    (apart-permuted lines (insert (remove lines from) to line)
    (IsPermutation-trans lines (line ∷ remove lines from) (insert (remove lines from) to line) (taken_out lines from line at)
    (IsPermutation-insert (remove lines from) to line))
    (apart-policy lines policy))

-- When a name stands twice.
use Rattle.std.proofs.Common.{◌≡◌, ℕ, zero, suc, ◌≤◌, true, false, List, [], ◌∷◌, length, take, Some, None, refl, arith}
use Rattle.std.specs.Prelude.{slice_get}
use Rattle.std.specs.List.{AllByRecursion, IsDistinct, list_any}
use Rattle.std.specs.Str.{bytes_eq}
use Rattle.std.proofs.Math.Bool.{or-true}
use Rattle.std.proofs.lemmas.Bool.{or_from, or_parts}
use Rattle.std.proofs.lemmas.Cmp.{nat_list_eq_equiv}
use Rattle.std.proofs.lemmas.List.Folds.{list_any-append}
use Rattle.std.proofs.lemmas.Map.Keys.{IsDistinct-cons, IsDistinct-head, IsDistinct-tail}
use Rattle.spd_line.specs.declared.line.LineParts.{LineParts}
use Rattle.spd_line.specs.Policy.{IsPolicy, all_names, final_name, most_lines, names}
use Rattle.spd_order.specs.Edits.{policy_fault}
use Rattle.spd_order.specs.Names.{has_repeats, is_taken}
use Rattle.spd_order.proofs.Policies.{apart-policy, none_passes, policy-apart}

none_is : (name : List ℕ) (others : List (List ℕ)) → AllByRecursion (λ other. bytes_eq name other ≡ false) others → list_any (bytes_eq name) others ≡ false
none_is name [] h = refl
none_is name (other ∷ others) h = or_from (bytes_eq name other) (list_any (bytes_eq name) others) h.0 (none_is name others h.1)

repeats-distinct : (xs : List (List ℕ)) → IsDistinct bytes_eq xs → has_repeats xs ≡ false
repeats-distinct [] apart = refl
repeats-distinct (name ∷ others) apart =
    or_from (list_any (bytes_eq name) others) (has_repeats others)
    (none_is name others (IsDistinct-head bytes_eq name others apart)) (repeats-distinct others (IsDistinct-tail bytes_eq name others apart))

-- The lines of a policy make one.
pub policy_fault-policy : (lines : List LineParts) → IsPolicy lines → policy_fault lines ≡ None
policy_fault-policy lines policy =
    let few : length lines ≤ most_lines = policy.few in
    let once : has_repeats (all_names lines) ≡ false = repeats-distinct (all_names lines) (apart-policy lines policy) in
    grind arith

distinct-repeats : (xs : List (List ℕ)) → has_repeats xs ≡ false → IsDistinct bytes_eq xs
unfolding IsDistinct
distinct-repeats [] once = tt
distinct-repeats (name ∷ others) once =
    let parts = or_parts (list_any (bytes_eq name) others) (has_repeats others) once in
    IsDistinct-cons bytes_eq name others (none_passes name others parts.0) (distinct-repeats others parts.1)

-- Lines without a fault are those of a policy.
pub policy-faultless : (lines : List LineParts) → policy_fault lines ≡ None → IsPolicy lines
policy-faultless lines none =
    policy-apart lines (grind arith) (distinct-repeats (all_names lines) (grind arith))

-- A name that is like that of some line is like one of all names.
like_line : (name : List ℕ) (lines : List LineParts) (index : ℕ) (line : LineParts) → slice_get lines index ≡ Some line → bytes_eq name line.name ≡ true
    → list_any (bytes_eq name) (all_names lines) ≡ true
like_line name [] index line at like = cc
like_line name (l ∷ ls) zero line at like = let same : l ≡ line = cc in rw (same, like) refl
like_line name (l ∷ ls) (suc index) line at like = rw (like_line name ls index line at like) (or-true (bytes_eq name l.name))

-- Where the name of a line is taken before it, some name stands twice.
pub repeats-taken : (lines : List LineParts) (index : ℕ) (line : LineParts) → slice_get lines index ≡ Some line
    → is_taken line.name (take index lines) ≡ true → has_repeats (all_names lines) ≡ true
repeats-taken [] index line at taken = cc
repeats-taken (l ∷ ls) zero line at taken =
    let same : l ≡ line = cc in
    let last : list_any (bytes_eq line.name) (all_names ls) ≡ true =
    rw (list_any-append (bytes_eq line.name) (names ls) (final_name ∷ []), taken) (or-true (list_any (bytes_eq line.name) (names ls))) in
    rw (same, last) refl
repeats-taken (l ∷ ls) (suc index) line at taken =
    let like = like_line l.name ls index line at in
    let same = nat_list_eq_equiv.symm line.name l.name in
    let rest = repeats-taken ls index line at in
    grind arith

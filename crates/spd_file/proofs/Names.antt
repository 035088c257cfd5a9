-- The names of the lines so far.
use Rattle.std.proofs.Common.{◌≡◌, ◌≢◌, ◌≤◌, ℕ, arith, Bool, true, false, ◌||◌, cond, List, [], ◌∷◌, ◌++◌, length, nat_cmp, refl, sym}
use Rattle.std.specs.BTreeMap.{is_at}
use Rattle.std.specs.Cmp.Lexicographic.{slice_cmp, nat_list_eq_equiv}
use Rattle.std.specs.List.{IsDistinct, list_any}
use Rattle.std.specs.Str.{bytes_eq}
use Rattle.std.proofs.lemmas.Bool.{false_from_ne_true}
use Rattle.std.proofs.lemmas.List.{map-append}
use Rattle.std.proofs.lemmas.List.Folds.{list_any-append}
use Rattle.std.proofs.lemmas.Map.Keys.{IsDistinct-push}
use Rattle.std.proofs.lemmas.Map.Made.{AllPairs-from_IsDistinct}
use Rattle.std.proofs.lemmas.Map.Text.{is_eq-slice_cmp}
use Rattle.std.proofs.lemmas.Slice.Eq.{bytes_eq-Decides}
use Rattle.spd_line.specs.declared.line.LineParts.{LineParts}
use Rattle.spd_line.specs.Policy.{IsPolicy, final_name, most_lines, names}

last_or_before : (last before : Bool) → cond last true before ≡ (before || (last || false))
last_or_before last before = grind arith

-- One more name is found by itself, and each other name as before.
pub names-more : (lines : List LineParts) (line : LineParts) (name : List ℕ)
    → cond (is_at (slice_cmp nat_cmp line.name) name) true (list_any (bytes_eq name) (names lines))
    ≡ list_any (bytes_eq name) (names (lines ++ line ∷ []))
names-more lines line name =
    rw (is_eq-slice_cmp line.name name, nat_list_eq_equiv.symm line.name name, map-append, list_any-append)
    (last_or_before (bytes_eq name line.name) _)

-- No two of the names are the same, and none is `final`.
pub record AreNew (lines : List LineParts) : Type 0 where
  pub apart : IsDistinct bytes_eq (names lines)
  pub unreserved : list_any (bytes_eq final_name) (names lines) ≡ false

pub new-none : AreNew []
unfolding IsDistinct
new-none = record { apart = tt; unreserved = refl }

pub new-more : (lines : List LineParts) (line : LineParts) → AreNew lines
    → list_any (bytes_eq line.name) (names lines) ≡ false → line.name ≢ final_name → AreNew (lines ++ line ∷ [])
new-more lines line before new other =
    let differs : bytes_eq final_name line.name ≡ false =
    false_from_ne_true _ (λ same. other (sym ((bytes_eq-Decides final_name line.name).0 same))) in
    record {
      apart = rw map-append (IsDistinct-push nat_list_eq_equiv (names lines) line.name before.apart new);
      unreserved = rw (map-append, list_any-append, before.unreserved, differs) refl;
    }

pub policy-new : (lines : List LineParts) → length lines ≤ most_lines → AreNew lines → IsPolicy lines
policy-new lines few new = record {
  few = few;
  distinct = AllPairs-from_IsDistinct bytes_eq-Decides _
      (IsDistinct-push nat_list_eq_equiv (names lines) final_name new.apart new.unreserved);
}

pub policy-none : IsPolicy []
policy-none = policy-new [] (omega arith) new-none

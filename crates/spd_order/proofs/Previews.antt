-- A policy with an edit that isn't refused keeps what a preview keeps.
use Rattle.std.proofs.Common.{◌≡◌, ℕ, ◌+◌, ◌-◌, ◌<◌, ◌≤◌, true, List, length, get_or, Some, None, refl, ⊎_elim, arith}
use Rattle.std.specs.Prelude.{remove, slice_get}
use Rattle.std.proofs.lemmas.Bool.{le-leb}
use Rattle.std.proofs.lemmas.List.Edits.{length-insert, length-remove}
use Rattle.std.proofs.lemmas.Option.{slice_get_cases, slice_get_within}
use Rattle.spd_line.specs.declared.line.LineParts.{LineParts}
use Rattle.spd_line.specs.Policy.{IsPolicy}
use Rattle.spd_order.specs.Edits.{is_place}
use Rattle.spd_order.specs.inner.Edited.{IsEdited}
use Rattle.spd_order.proofs.MayEdit.{MayInsert, place_within}
use Rattle.spd_order.proofs.Policies.{policy-insert, policy-moved, policy-remove}

pub with_line : (place : ℕ) (line : LineParts) (lines : List LineParts) (count : ℕ) → IsPolicy lines → MayInsert place line lines → count ≡ length lines
    → IsEdited None (Some (place - 1, line)) (count + 1) lines
with_line place line lines count policy may many =
    let few = may.few in
    let first = may.first in
    let last = may.last in
    let within : place - 1 ≤ length lines = omega arith in
    record {
      policy = policy-insert lines (place - 1) line within few may.free policy;
      counted = omega (arith, length-insert lines (place - 1) line within);
      place = le-leb (place - 1) (length lines) within;
    }

pub without_line : (index : ℕ) (lines : List LineParts) (count : ℕ) → IsPolicy lines → index < length lines → count ≡ length lines
    → IsEdited (Some index) None (count - 1) lines
without_line index lines count policy within many =
    ⊎_elim there (λ past. absurd (omega arith)) (slice_get_cases lines index).1
  where
    there : (line : LineParts) × (index < length lines) × (slice_get lines index ≡ Some line) × (get_or lines index line ≡ line)
        → IsEdited (Some index) None (count - 1) lines
    there found = record {
      policy = policy-remove lines index found.0 found.2 policy;
      counted = omega (arith, length-remove lines index within);
      place = refl;
    }

pub with_moved : (index place : ℕ) (line : LineParts) (lines : List LineParts) (count : ℕ) → IsPolicy lines → slice_get lines index ≡ Some line
    → is_place place (length lines) ≡ true → count ≡ length lines
    → IsEdited (Some index) (Some (place - 1, line)) count lines
with_moved index place line lines count policy at fits many =
    let within : index < length lines = slice_get_within lines index line at in
    let on = place_within place (length lines) fits in
    let less = length-remove lines index within in
    let there : place - 1 ≤ length (remove lines index) = omega arith in
    record {
      policy = policy-moved lines index (place - 1) line at (omega arith) policy;
      counted = omega (arith, length-insert (remove lines index) (place - 1) line there);
      place = le-leb (place - 1) (length (remove lines index)) there;
    }

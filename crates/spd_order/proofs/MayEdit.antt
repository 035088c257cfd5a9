-- When an edit isn't refused.
use Rattle.std.proofs.Common.{◌≡◌, ◌≢◌, ℕ, ◌+◌, ◌-◌, ◌<◌, ◌≤◌, true, false, List, [], ◌∷◌, ◌++◌, length, take, Some, None, Ok, arith}
use Rattle.std.specs.Prelude.{insert, slice_get}
use Rattle.std.specs.Result.{result_err}
use Rattle.std.proofs.lemmas.List.{length-take}
use Rattle.std.proofs.lemmas.List.Edits.{insert_end}
use Rattle.std.proofs.lemmas.Option.{slice_get_within}
use Rattle.spd_line.specs.declared.line.LineParts.{LineParts}
use Rattle.spd_line.specs.Policy.{most_lines}
use Rattle.spd_order.specs.declared.fault.OrderFault.{OrderFault}
use Rattle.spd_order.specs.declared.fault.OrderFault.TheVariants.{NoMemory}
use Rattle.spd_order.specs.Edits.{inserted, is_place, policy_fault}
use Rattle.spd_order.specs.Fault.{IsFaultOf}
use Rattle.spd_order.specs.Names.{is_taken}
use Rattle.spd_order.proofs.Repeats.{repeats-taken}

-- A line may be inserted at a place.
pub record MayInsert (place : ℕ) (line : LineParts) (lines : List LineParts) : Type 0 where
  pub few : length lines < most_lines
  pub free : is_taken line.name lines ≡ false
  pub first : 1 ≤ place
  pub last : place ≤ length lines + 1
  pub gives : inserted place line lines ≡ Ok (insert lines (place - 1) line)

pub may_insert : (place : ℕ) (line : LineParts) (lines : List LineParts) → result_err (inserted place line lines) ≡ None → MayInsert place line lines
may_insert place line lines none = record {
  few = grind arith;
  free = grind arith;
  first = grind arith;
  last = grind arith;
  gives = grind arith;
}

-- A place that fits is one from 1 to the last.
pub place_within : (place last : ℕ) → is_place place last ≡ true → (1 ≤ place) × (place ≤ last)
place_within place last fits = (grind arith, grind arith)

-- A line that is put in at the end stands behind all others.
pub inserted_end : (lines new : List LineParts) (line : LineParts) → inserted (length lines + 1) line lines ≡ Ok new → new ≡ lines ++ line ∷ []
inserted_end lines new line is =
    let place : length lines + 1 - 1 ≡ length lines = omega arith in
    let put : insert lines (length lines + 1 - 1) line ≡ lines ++ line ∷ [] = rw place (insert_end lines line) in
    grind arith

-- Where a list's next line can't be put in behind those before it, the list makes no policy, for that reason.
pub refused_end : (lines : List LineParts) (index : ℕ) (line : LineParts) (fault : OrderFault) → slice_get lines index ≡ Some line → length lines ≤ most_lines
    → IsFaultOf (inserted (length (take index lines) + 1) line (take index lines)) fault → fault ≢ NoMemory → policy_fault lines ≡ Some fault
refused_end lines index line fault at few is other =
    let within : index < length lines = slice_get_within lines index line at in
    let short = length-take index lines in
    let twice = repeats-taken lines index line at in
    grind arith

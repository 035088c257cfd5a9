-- What is true of an answer to a proposal, by points.
use Rattle.std.specs.Prelude.{◌≡◌, ℕ, true, false, ◌↔◌, ◌*◌, ◌≤◌, List, length, take, IsTrue}
use Rattle.sel_box.specs.Point.{PointFields, IsReal}
use Rattle.spd_line.specs.declared.line.LineParts.{LineParts}
use Rattle.ts_cover.specs.Covered.{covered, is_sayable}
use Rattle.ts_payload.specs.declared.selector.Ts.{Ts}
use Rattle.ts_payload.specs.Selector.{AreSelectors}
use Rattle.ts_narrow.specs.declared.narrowed.Narrowed.{Narrowed}
use Rattle.ts_narrow.specs.declared.narrowed.Narrowed.TheVariants.{Pair, Unacceptable}
use Rattle.ts_narrow.specs.Allowed.{allowed}

-- Some line allows a point that the proposal covers and whose protocol a selector can name.
pub record SomeAcceptable (lines : List LineParts) (tsi tsr : List Ts) : Type 0 where
  pub point : PointFields
  pub place : ℕ
  pub is_allowed : allowed lines place point ≡ true
  pub is_covered : covered tsi tsr point ≡ true
  pub can_be_said : is_sayable point ≡ true

-- The line allows each real point that the proposal covers.
abbrev pub AllAllowed : List LineParts → ℕ → List Ts → List Ts → Type 0
AllAllowed lines place tsi tsr =
    (x : PointFields) → IsReal x → covered tsi tsr x ≡ true → allowed lines place x ≡ true

-- Each real point that these selectors cover is covered by the proposal, and allowed by the line.
abbrev pub IsWithin : List LineParts → List Ts → List Ts → Narrowed → Type 0
IsWithin lines tsi tsr Unacceptable = Unit {0}
IsWithin lines tsi tsr (Pair some_tsi some_tsr link additional) =
    (x : PointFields) → IsReal x → covered some_tsi some_tsr x ≡ true → (covered tsi tsr x ≡ true) × (allowed lines link x ≡ true)

-- The first selectors of the initiator and of the responder cover a real point.
pub record SomeFirst (tsi tsr : List Ts) : Type 0 where
  pub point : PointFields
  pub real : IsReal point
  pub is_covered : covered (take 1 tsi) (take 1 tsr) point ≡ true

-- Where they do, and one line allows each that they cover, these selectors cover each.
abbrev pub KeepsFirst : List LineParts → List Ts → List Ts → Narrowed → Type 0
KeepsFirst lines tsi tsr Unacceptable = Unit {0}
KeepsFirst lines tsi tsr (Pair some_tsi some_tsr link additional) =
    SomeFirst tsi tsr → (place : ℕ) → AllAllowed lines place (take 1 tsi) (take 1 tsr) → (x : PointFields) → IsReal x →
    covered (take 1 tsi) (take 1 tsr) x ≡ true → covered some_tsi some_tsr x ≡ true

-- These selectors cover a real point,
pub record SomeCovered (tsi tsr : List Ts) : Type 0 where
  pub point : PointFields
  pub real : IsReal point
  pub is_covered : covered tsi tsr point ≡ true

-- and so do those of an answer.
abbrev pub CoversSome : Narrowed → Type 0
CoversSome Unacceptable = Unit {0}
CoversSome (Pair some_tsi some_tsr link additional) = SomeCovered some_tsi some_tsr

-- Some line allows a point that the proposal covers and these selectors don't.
pub record SomeLeft (lines : List LineParts) (tsi tsr some_tsi some_tsr : List Ts) : Type 0 where
  pub point : PointFields
  pub place : ℕ
  pub is_allowed : allowed lines place point ≡ true
  pub is_covered : covered tsi tsr point ≡ true
  pub is_left : covered some_tsi some_tsr point ≡ false

-- The notice comes exactly where there is one.
abbrev pub TellsOfLeft : List LineParts → List Ts → List Ts → Narrowed → Type 0
TellsOfLeft lines tsi tsr Unacceptable = Unit {0}
TellsOfLeft lines tsi tsr (Pair some_tsi some_tsr link additional) =
    IsTrue additional ↔ SomeLeft lines tsi tsr some_tsi some_tsr

-- The answer is that nothing is acceptable exactly where nothing is.
abbrev pub RefusesRightly : List LineParts → List Ts → List Ts → Narrowed → Type 0
RefusesRightly lines tsi tsr answer = (answer ≡ Unacceptable) ↔ (SomeAcceptable lines tsi tsr → ⊥)

-- The answer is the whole proposal exactly where something is acceptable and one line allows all that it covers.
abbrev pub GivesWhole : List LineParts → List Ts → List Ts → Narrowed → Type 0
GivesWhole lines tsi tsr answer =
    (place : ℕ) → (answer ≡ Pair tsi tsr place false) ↔ (SomeAcceptable lines tsi tsr × AllAllowed lines place tsi tsr)

-- A payload can have the selectors of the answer, which are two for each proposed one at most.
abbrev pub HasSelectors : List Ts → List Ts → Narrowed → Type 0
HasSelectors tsi tsr Unacceptable = Unit {0}
HasSelectors tsi tsr (Pair some_tsi some_tsr link additional) =
    (AreSelectors some_tsi × AreSelectors some_tsr)
    × ((length some_tsi ≤ 2 * length tsi) × (length some_tsr ≤ 2 * length tsr))

-- An answer is right where all of this is so.
pub record IsRightAnswer (lines : List LineParts) (tsi tsr : List Ts) (answer : Narrowed) : Type 0 where
  pub refuses : RefusesRightly lines tsi tsr answer
  pub whole : GivesWhole lines tsi tsr answer
  pub within : IsWithin lines tsi tsr answer
  pub some : CoversSome answer
  pub first : KeepsFirst lines tsi tsr answer
  pub left : TellsOfLeft lines tsi tsr answer

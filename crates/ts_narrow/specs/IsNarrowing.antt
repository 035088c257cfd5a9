-- The answer of a responder to a proposal, by points (RFC 7296 section 2.9). Which part it picks is this project's own.
use Rattle.std.specs.Prelude.{◌≡◌, ℕ, ◌≤◌, ◌==◌, ◌⊎◌, true, false, ◌&&◌}
use Rattle.std.specs.Prelude.{List, [], ◌∷◌, take, Option, Some, None}
use Rattle.sel_box.specs.declared.any_box.AnyBox.{AnyBox}
use Rattle.sel_box.specs.Boxes.{box_has}
use Rattle.sel_box.specs.Point.{IsReal, PointFields, is_point}
use Rattle.spd_line.specs.declared.line.LineParts.{LineParts}
use Rattle.ts_cover.specs.Covered.{covered, is_sayable}
use Rattle.ts_cover.specs.Writing.{can_write, cut_selectors, local_side, remote_side}
use Rattle.ts_payload.specs.declared.selector.Ts.{Ts}
use Rattle.ts_narrow.specs.declared.meets.Meet.{Meet}
use Rattle.ts_narrow.specs.declared.narrowed.Narrowed.{Narrowed}
use Rattle.ts_narrow.specs.declared.narrowed.Narrowed.TheVariants.{Pair, Unacceptable}
use Rattle.ts_narrow.specs.Answered.{AllAllowed, SomeAcceptable, SomeFirst, TellsOfLeft}

-- The first meet of the list that has the property, or none where no meet has it.
abbrev pub IsFirst : (Meet → Type 0) → List Meet → Option Meet → Type 0
IsFirst P [] found = found ≡ None
IsFirst P (meet ∷ list) found = (P meet × (found ≡ Some meet)) ⊎ ((P meet → ⊥) × IsFirst P list found)

-- The meet has a real point that these selectors cover, and whose protocol a selector can name.
pub record HasSayable (tsi tsr : List Ts) (meet : Meet) : Type 0 where
  pub point : PointFields
  pub real : IsReal point
  pub inside : box_has meet.region point ≡ true
  pub is_covered : covered tsi tsr point ≡ true
  pub can_be_said : is_sayable point ≡ true

-- It has one of this protocol.
pub record HasProtocol (tsi tsr : List Ts) (meet : Meet) (protocol : ℕ) : Type 0 where
  pub point : PointFields
  pub real : IsReal point
  pub inside : box_has meet.region point ≡ true
  pub is_covered : covered tsi tsr point ≡ true
  pub is_of : point.protocol ≡ protocol

-- The least protocol from 1 to 255 with which it has one.
pub record IsLeast (tsi tsr : List Ts) (meet : Meet) (protocol : ℕ) : Type 0 where
  pub above : 1 ≤ protocol
  pub below : protocol ≤ 255
  pub has : HasProtocol tsi tsr meet protocol
  pub least : (other : ℕ) → 1 ≤ other → HasProtocol tsi tsr meet other → protocol ≤ other

-- The part of a meet that is answered: all of it where its sides can be written, and else its points of that least protocol.
pub data IsPart (tsi tsr : List Ts) (meet : Meet) (part : AnyBox) : Type 0 where
  is_whole : can_write meet.region ≡ true → part ≡ meet.region → IsPart tsi tsr meet part
  is_least : can_write meet.region ≡ false → (protocol : ℕ) → IsLeast tsi tsr meet protocol
      → ((x : PointFields) → box_has part x ≡ (is_point x && (box_has meet.region x && (x.protocol == protocol))))
      → IsPart tsi tsr meet part

-- Each point that these selectors cover has one protocol, which a selector can name.
pub record HaveOneProtocol (tsi tsr : List Ts) : Type 0 where
  pub protocol : ℕ
  pub above : 1 ≤ protocol
  pub below : protocol ≤ 255
  pub each : (x : PointFields) → covered tsi tsr x ≡ true → x.protocol ≡ protocol

-- A meet of the line serves selectors where it has each point that they cover, and can be answered without losing one.
pub record Serves (place : ℕ) (tsi tsr : List Ts) (meet : Meet) : Type 0 where
  pub of_line : meet.link ≡ place
  pub holds : (x : PointFields) → covered tsi tsr x ≡ true → box_has meet.region x ≡ true
  pub keeps : (can_write meet.region ≡ true) ⊎ HaveOneProtocol tsi tsr

-- What is picked: selectors of the initiator and of the responder, and the place of a line.
pub record Picked : Type 0 where
  pub tsi : List Ts
  pub tsr : List Ts
  pub link : ℕ

-- Every selector of the proposal, cut to a box of a line.
abbrev pub all_cut : List Ts → List Ts → AnyBox → ℕ → Picked
all_cut tsi tsr part link =
    record { tsi = cut_selectors (remote_side part) tsi; tsr = cut_selectors (local_side part) tsr; link = link }

-- Where one line allows the first selectors: all are cut to the first meet that serves those; where none does, they alone are kept.
pub data IsByFirst (list : List Meet) (tsi tsr : List Ts) (place : ℕ) (picked : Picked) : Type 0 where
  of_serving : (meet : Meet) → IsFirst (Serves place (take 1 tsi) (take 1 tsr)) list (Some meet)
      → (part : AnyBox) → IsPart (take 1 tsi) (take 1 tsr) meet part → picked ≡ all_cut tsi tsr part place
      → IsByFirst list tsi tsr place picked
  is_alone : IsFirst (Serves place (take 1 tsi) (take 1 tsr)) list None
      → picked ≡ record { tsi = take 1 tsi; tsr = take 1 tsr; link = place } → IsByFirst list tsi tsr place picked

-- Otherwise all are cut to the first meet with a sayable point of the first selectors; where none has one, to the first with any.
pub data IsByMeet (list : List Meet) (tsi tsr : List Ts) (picked : Picked) : Type 0 where
  of_first : (meet : Meet) → IsFirst (HasSayable (take 1 tsi) (take 1 tsr)) list (Some meet)
      → (part : AnyBox) → IsPart (take 1 tsi) (take 1 tsr) meet part → picked ≡ all_cut tsi tsr part meet.link
      → IsByMeet list tsi tsr picked
  of_any : IsFirst (HasSayable (take 1 tsi) (take 1 tsr)) list None
      → (meet : Meet) → IsFirst (HasSayable tsi tsr) list (Some meet)
      → (part : AnyBox) → IsPart tsi tsr meet part → picked ≡ all_cut tsi tsr part meet.link
      → IsByMeet list tsi tsr picked

-- No line allows each real point that these selectors cover.
abbrev pub NoneAllows : List LineParts → List Ts → List Ts → Type 0
NoneAllows lines tsi tsr = (place : ℕ) → AllAllowed lines place tsi tsr → ⊥

-- The first case that applies: one line allows all that is covered; one allows what the first selectors cover, which is some; other.
pub data IsPicked (lines : List LineParts) (list : List Meet) (tsi tsr : List Ts) (picked : Picked) : Type 0 where
  by_all : (place : ℕ) → AllAllowed lines place tsi tsr → picked ≡ record { tsi = tsi; tsr = tsr; link = place }
      → IsPicked lines list tsi tsr picked
  by_first : NoneAllows lines tsi tsr → SomeFirst tsi tsr → (place : ℕ) → AllAllowed lines place (take 1 tsi) (take 1 tsr)
      → IsByFirst list tsi tsr place picked → IsPicked lines list tsi tsr picked
  by_meet : NoneAllows lines tsi tsr → (SomeFirst tsi tsr → NoneAllows lines (take 1 tsi) (take 1 tsr))
      → IsByMeet list tsi tsr picked → IsPicked lines list tsi tsr picked

-- The answer, by the meets in order: nothing is acceptable; or something is, this is picked, and the notice tells what is left.
abbrev pub IsNarrowing : List LineParts → List Meet → List Ts → List Ts → Narrowed → Type 0
IsNarrowing lines list tsi tsr Unacceptable = SomeAcceptable lines tsi tsr → ⊥
IsNarrowing lines list tsi tsr (Pair some_tsi some_tsr link additional) =
    SomeAcceptable lines tsi tsr
    × IsPicked lines list tsi tsr (record { tsi = some_tsi; tsr = some_tsr; link = link })
    × TellsOfLeft lines tsi tsr (Pair some_tsi some_tsr link additional)

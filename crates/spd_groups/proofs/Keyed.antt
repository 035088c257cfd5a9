-- The group of a point's key has the points of that key.
use Rattle.std.proofs.Common.{◌≡◌, ℕ, Bool, true, false, ◌==◌, ◌&&◌, bytes_eq, nat_eq, List, Option, Some, None, refl, sym, ap, ap₂, ◌∙◌}
use Rattle.std.specs.Bool.{then_some}
use Rattle.std.specs.Cmp.Lexicographic.{bytes_decides}
use Rattle.std.specs.Option.{option_eq}
use Rattle.std.proofs.lemmas.Bool.{both_ways, eq-eqb, eqb-true, false_from_ne_true}
use Rattle.sel_box.specs.Point.{PointFields}
use Rattle.sel_box.specs.declared.packet.Direction.{Direction}
use Rattle.sel_box.specs.declared.packet.Direction.TheVariants.{Outbound, Inbound}
use Rattle.sel_text.specs.declared.family.Family.{Family}
use Rattle.sel_text.specs.Family.{same_family}
use Rattle.spd_line.specs.declared.line.LineParts.{LineParts}
use Rattle.spd_line.specs.First.{first_place, line_at, name_at}
use Rattle.spd_cache.specs.Key.{same_direction, same_key, same_pins}
use Rattle.spd_cache.specs.KeyOf.{key_of, pins_at, place_named}
use Rattle.spd_cut.specs.Group.{fits, fits_family, pins_fit}

same_direction-refl : (d : Direction) → same_direction d d ≡ true
same_direction-refl Outbound = refl
same_direction-refl Inbound = refl

-- A value fits a flagged one exactly where both are taken alike.
fits-taken : (flag : Bool) (a b : ℕ) → fits (then_some flag a) b ≡ option_eq nat_eq (then_some flag a) (then_some flag b)
fits-taken true a b = refl
fits-taken false a b = refl

fits_family-taken : (flag : Bool) (f g : Family) →
    fits_family (then_some flag f) g ≡ option_eq same_family (then_some flag f) (then_some flag g)
fits_family-taken true f g = refl
fits_family-taken false f g = refl

-- So a point has the values that a line takes from another where it takes the same from both.
pins_fit-taken : (found : Option LineParts) (y x : PointFields) → pins_fit (pins_at found y) x ≡ same_pins (pins_at found y) (pins_at found x)
pins_fit-taken None y x = refl
pins_fit-taken (Some line) y x =
    ap₂ (λ (a b : Bool). a && b) (fits_family-taken _ y.family x.family)
    (ap₂ (λ (a b : Bool). a && b) (fits-taken line.pfp.local y.local x.local)
    (ap₂ (λ (a b : Bool). a && b) (fits-taken line.pfp.remote y.remote x.remote)
    (ap₂ (λ (a b : Bool). a && b) (fits-taken line.pfp.protocol y.protocol x.protocol)
    (ap₂ (λ (a b : Bool). a && b) (fits-taken line.pfp.local_port y.local_field x.local_field)
    (fits-taken line.pfp.remote_port y.remote_field x.remote_field)))))

-- Where names tell their lines, one key has another's name exactly where it is of the same place.
module _ (d : Direction) (y x : PointFields) (lines : List LineParts)
    (told_y : place_named (name_at lines (first_place d y lines)) lines ≡ first_place d y lines)
    (told_x : place_named (name_at lines (first_place d x lines)) lines ≡ first_place d x lines) where
  pub keyed : ((first_place d x lines == first_place d y lines) && pins_fit (pins_at (line_at lines (first_place d y lines)) y) x)
      ≡ same_key (key_of d y lines) (key_of d x lines)
  keyed =
      go (first_place d x lines == first_place d y lines) refl
      ∙ ap (λ (here : Bool). here && (bytes_eq (name_at lines (first_place d y lines)) (name_at lines (first_place d x lines))
      && same_pins (pins_at (line_at lines (first_place d y lines)) y) (pins_at (line_at lines (first_place d x lines)) x)))
      (sym (same_direction-refl d))
    where
      go : (here : Bool) → (first_place d x lines == first_place d y lines) ≡ here →
          (here && pins_fit (pins_at (line_at lines (first_place d y lines)) y) x)
          ≡ (bytes_eq (name_at lines (first_place d y lines)) (name_at lines (first_place d x lines))
          && same_pins (pins_at (line_at lines (first_place d y lines)) y) (pins_at (line_at lines (first_place d x lines)) x))
      go true is =
          let place : first_place d x lines ≡ first_place d y lines = eqb-true (first_place d x lines) (first_place d y lines) is in
          pins_fit-taken (line_at lines (first_place d y lines)) y x
          ∙ ap₂ (λ (a b : Bool). a && b)
          (sym ((bytes_decides (name_at lines (first_place d y lines)) (name_at lines (first_place d x lines))).1 (ap (name_at lines) (sym place))))
          (ap (λ (p : ℕ). same_pins (pins_at (line_at lines (first_place d y lines)) y) (pins_at (line_at lines p) x)) (sym place))
      go false is =
          let other : bytes_eq (name_at lines (first_place d y lines)) (name_at lines (first_place d x lines)) ≡ false =
          false_from_ne_true _ (λ same.
          let name = (bytes_decides (name_at lines (first_place d y lines)) (name_at lines (first_place d x lines))).0 same in
          let place : first_place d x lines ≡ first_place d y lines =
          sym told_x ∙ ap (λ (n : List ℕ). place_named n lines) (sym name) ∙ told_y in
          both_ways _ is (eq-eqb (first_place d x lines) (first_place d y lines) place)) in
          ap
          (λ (here : Bool). here && same_pins (pins_at (line_at lines (first_place d y lines)) y) (pins_at (line_at lines (first_place d x lines)) x))
          (sym other)

-- What texts mean together.
use Rattle.std.proofs.Common.{◌≡◌, ℕ, leb, Bool, true, false, ◌&&◌, cond, ap, refl, Option, Some, None, option_map, Result, Ok, Err}
use Rattle.sel_text.specs.declared.fault.TextFault.{TextFault}
use Rattle.sel_text.specs.declared.fault.TextFault.TheVariants.{NotInGrammar, OutOfRange}
use Rattle.sel_text.specs.Fault.{bounded}
use Rattle.sel_text.specs.inner.Reading.{both}
use Rattle.sel_text.specs.inner.Reading.{in_order}
use Rattle.sel_text.specs.Parts.{pair}

-- a meaning made of another
abbrev pub mapped : {A B : Type 0} → (A → B) → Result A TextFault → Result B TextFault
mapped make (Ok value) = Ok (make value)
mapped make (Err fault) = Err fault

both-cond : {V Y : Type 0} (b c : Bool) (v : V) (y : Y)
    → both (cond b (Ok v) (Err OutOfRange)) (cond c (Ok y) (Err OutOfRange)) ≡ cond (b && c) (Ok (v, y)) (Err OutOfRange)
both-cond true true v y = refl
both-cond true false v y = refl
both-cond false true v y = refl
both-cond false false v y = refl

both-cond_none : {V Y : Type 0} (b : Bool) (v : V) → both {B = Y} (cond b (Ok v) (Err OutOfRange)) (Err NotInGrammar) ≡ Err NotInGrammar
both-cond_none true v = refl
both-cond_none false v = refl

module _ {W V X Y : Type 0} (fits : W → Bool) (value : W → V) (also_fits : X → Bool) (also_value : X → Y) where
  abbrev pub fit_both : W × X → Bool
  fit_both written = fits written.0 && also_fits written.1

  abbrev pub value_both : W × X → V × Y
  value_both written = (value written.0, also_value written.1)

  pub both-bounded : (first : Option W) (second : Option X)
      → both (bounded fits value first) (bounded also_fits also_value second) ≡ bounded fit_both value_both (pair first second)
  both-bounded None second = refl
  both-bounded (Some w) None = both-cond_none (fits w) (value w)
  both-bounded (Some w) (Some x) = both-cond (fits w) (also_fits x) (value w) (also_value x)

pub mapped-bounded : {W V Y : Type 0} (make : V → Y) (fits : W → Bool) (value : W → V) (written : Option W)
    → mapped make (bounded fits value written) ≡ bounded fits (λ w. make (value w)) written
mapped-bounded make fits value None = refl
mapped-bounded make fits value (Some w) = by_test (fits w)
  where
    by_test : (b : Bool) → mapped make (cond b (Ok (value w)) (Err OutOfRange)) ≡ cond b (Ok (make (value w))) (Err OutOfRange)
    by_test true = refl
    by_test false = refl

pub bounded-option_map : {W X V : Type 0} (into : X → W) (fits : W → Bool) (value : W → V) (written : Option X)
    → bounded fits value (option_map into written) ≡ bounded (λ x. fits (into x)) (λ x. value (into x)) written
bounded-option_map into fits value None = refl
bounded-option_map into fits value (Some x) = refl

pub in_order-bounded : {W : Type 0} (fits : W → Bool) (value : W → ℕ × ℕ) (written : Option W)
    → in_order (bounded fits value written) ≡ bounded (λ w. fits w && leb (value w).0 (value w).1) value written
in_order-bounded fits value None = refl
in_order-bounded fits value (Some w) = by_test (fits w)
  where
    by_test : (b : Bool) → in_order (cond b (Ok (value w)) (Err OutOfRange)) ≡ cond (b && leb (value w).0 (value w).1) (Ok (value w)) (Err OutOfRange)
    by_test true = refl
    by_test false = refl

pub bounded-same : {W V : Type 0} (fits also : W → Bool) (value : W → V) → ((w : W) → fits w ≡ also w) → (written : Option W)
    → bounded fits value written ≡ bounded also value written
bounded-same fits also value same None = refl
bounded-same fits also value same (Some w) = ap (λ fit. cond fit (Ok (value w)) (Err OutOfRange)) (same w)

-- what a text writes where it is read as something
pub bounded_ok : {W V : Type 0} (fits : W → Bool) (value : W → V) (written : Option W) (v : V) → bounded fits value written ≡ Ok v
    → (w : W) × (written ≡ Some w) × (fits w ≡ true) × (value w ≡ v)
bounded_ok fits value None v is = absurd cc
bounded_ok {W = W} fits value (Some w) v is = by_test (fits w) refl is
  where
    by_test : (b : Bool) → fits w ≡ b → cond b (Ok (value w)) (Err OutOfRange) ≡ Ok v → (x : W) × (Some w ≡ Some x) × (fits x ≡ true) × (value x ≡ v)
    by_test true fit same = (w, refl, fit, cc)
    by_test false fit same = cc

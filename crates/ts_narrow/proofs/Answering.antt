-- The answer by its parts.
use Rattle.std.proofs.Common.{◌≡◌, ℕ, Bool, true, false, cond, List, Option, Some, None, Result, Ok, Err, sym, subst, ap, ◌∙◌}
use Rattle.std.specs.Prelude.{IfOk}
use Rattle.std.specs.List.{find}
use Rattle.std.specs.Option.{option_or}
use Rattle.sel_box.specs.declared.any_box.AnyBox.{AnyBox}
use Rattle.ts_payload.specs.declared.selector.Ts.{Ts}
use Rattle.ts_cover.specs.Pairs.{first_pair, pairs}
use Rattle.ts_cover.specs.RealParts.{leaves}
use Rattle.ts_narrow.specs.declared.meets.Meet.{Meet}
use Rattle.ts_narrow.specs.declared.narrowed.Narrowed.{Narrowed}
use Rattle.ts_narrow.specs.Meets.{regions_of}
use Rattle.ts_narrow.specs.Narrowing.{answer_of, by_meets, by_said, choice, pair_of}
use Rattle.ts_narrow.proofs.Found.{says_in}

-- ---- finding

-- What is found of the next entry is what is found of all, where none was found before it.
pub step_found : (field first here rest whole : Option Meet) (found : Meet) → field ≡ first → field ≡ Some found →
    here ≡ option_or first rest → here ≡ whole → Some found ≡ whole
step_found field first here rest whole found is at h w =
    sym (ap (λ (o : Option Meet). option_or o rest) (sym is ∙ at)) ∙ sym h ∙ w

pub step_none : (field first here rest whole : Option Meet) → field ≡ first → field ≡ None → here ≡ option_or first rest →
    here ≡ whole → rest ≡ whole
step_none field first here rest whole is at h w =
    sym (ap (λ (o : Option Meet). option_or o rest) (sym is ∙ at)) ∙ sym h ∙ w

-- ---- the answer

pub if_ok_then : {A E : Type 0} (result : Result A E) (v w : A) → v ≡ w → IfOk result (λ a. a ≡ v) → IfOk result (λ a. a ≡ w)
if_ok_then (Ok a) v w same is = is ∙ same
if_ok_then (Err e) v w same is = tt

-- A clause on what is answered, from the value.
pub answer-at : {E : Type 0} (result : Result Narrowed E) (value : Narrowed) (P : Narrowed → Type 0) →
    IfOk result (λ answer. answer ≡ value) → P value → IfOk result P
answer-at (Ok answer) value P same holds = subst P (sym same) holds
answer-at (Err e) value P same holds = tt

pub same_pair : (t t' u u' : List Ts) (link : ℕ) (a a' : Bool) → t ≡ t' → u ≡ u' → a ≡ a' → pair_of t u link a ≡ pair_of t' u' link a'
same_pair t t' u u' link a a' e f g =
    ap (λ (x : List Ts). pair_of x u link a) e ∙ ap (λ (x : List Ts). pair_of t' x link a) f ∙ ap (λ (x : Bool). pair_of t' u' link x) g

pub chosen-by_meets : (list : List Meet) (tsi tsr : List Ts) (cover : List AnyBox) (said : Meet) → cover ≡ pairs tsi tsr →
    find (says_in cover) list ≡ Some said → leaves cover (regions_of said.link list) ≡ true →
    answer_of tsi tsr cover list (choice cover (first_pair tsi tsr) said list) ≡ by_meets list tsi tsr
chosen-by_meets list tsi tsr cover said is found left =
    sym (ap (λ (b : Bool). cond b (answer_of tsi tsr cover list (choice cover (first_pair tsi tsr) said list))
    (pair_of tsi tsr said.link false)) left)
    ∙ sym (ap (by_said tsi tsr cover list) found)
    ∙ ap (λ (boxes : List AnyBox). by_said tsi tsr boxes list (find (says_in boxes) list)) is

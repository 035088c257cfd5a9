-- The name of a line tells its place, so points of one key have one verdict.
use Rattle.std.proofs.Common.{◌≡◌, ◌≢◌, ℕ, zero, suc, ◌+◌, ◌≤◌, Bool, true, false, ◌==◌, ◌&&◌, ◌||◌, bytes_eq, cond, List, [], ◌∷◌, length, get_or}
use Rattle.std.proofs.Common.{Option, Some, None, refl, sym, ap, ap₂, ◌∙◌, arith}
use Rattle.std.specs.Bool.{then_some}
use Rattle.std.specs.Cmp.Lexicographic.{bytes_decides}
use Rattle.std.specs.List.{AllPairs}
use Rattle.std.proofs.lemmas.Bool.{false_from_ne_true}
use Rattle.std.proofs.lemmas.List.{length-append, length-map}
use Rattle.sel_box.specs.Class.{opaque_field, opaque_protocol}
use Rattle.sel_box.specs.Point.{PointFields}
use Rattle.sel_box.specs.declared.packet.Direction.{Direction}
use Rattle.spd_line.specs.declared.judgement.Judgement.{Judgement}
use Rattle.spd_line.specs.declared.line.LineParts.{LineParts}
use Rattle.spd_line.specs.declared.pin.Pins.{Pins}
use Rattle.spd_line.specs.First.{first_place, judged_at, line_at, name_at, verdict_of}
use Rattle.spd_line.specs.Judged.{judgement_of, lacks_flagged}
use Rattle.spd_line.specs.Policy.{IsPolicy, all_names, final_name, names}
use Rattle.spd_cache.specs.declared.key.Key.{Key}
use Rattle.spd_cache.specs.KeyOf.{key_of, pins_at, place_named}

-- The name at a place is that of all names, which count from 0.
name_among : (lines : List LineParts) (k : ℕ) (d : List ℕ) → k ≤ length lines → get_or (all_names lines) k d ≡ name_at lines (suc k)
name_among [] zero d within = refl
name_among [] (suc k) d within = absurd (omega arith)
name_among (line ∷ lines) zero d within = refl
name_among (line ∷ lines) (suc k) d within = name_among lines k d (omega arith)

length-all_names : (lines : List LineParts) → length (all_names lines) ≡ length lines + 1
length-all_names lines =
    length-append (names lines) (final_name ∷ []) ∙ ap (λ (n : ℕ). n + 1) (length-map lines (λ (line : LineParts). line.name))

-- No two names are the same.
abbrev Apart : List (List ℕ) → Type 0
Apart = AllPairs (λ (x y : List ℕ). x ≢ y)

apart-tail : (name : List ℕ) (others : List (List ℕ)) → Apart (name ∷ others) → Apart others
apart-tail name others apart = λ i j d before within. apart (suc i) (suc j) d (omega arith) (omega arith)

named_at : (place : ℕ) (lines : List LineParts) → Apart (all_names lines) → 1 ≤ place → place ≤ length lines + 1 →
    place_named (name_at lines place) lines ≡ place
named_at place [] apart first last = omega arith
named_at zero (line ∷ lines) apart first last = absurd (omega arith)
named_at (suc zero) (line ∷ lines) apart first last =
    ap (λ (here : Bool). cond here 1 (1 + place_named line.name lines)) ((bytes_decides line.name line.name).1 refl)
named_at (suc (suc k)) (line ∷ lines) apart first last =
    let many = length-all_names lines in
    let differs : line.name ≢ name_at lines (suc k) =
    λ e. apart 0 (suc k) line.name (omega arith) (omega arith) (e ∙ sym (name_among lines k line.name (omega arith))) in
    let other : bytes_eq (name_at lines (suc k)) line.name ≡ false =
    false_from_ne_true _ (λ e. differs (sym ((bytes_decides (name_at lines (suc k)) line.name).0 e))) in
    ap (λ (here : Bool). cond here 1 (1 + place_named (name_at lines (suc k)) lines)) other
    ∙ omega (arith, named_at (suc k) lines (apart-tail line.name (all_names lines) apart) (omega arith) (omega arith))

pub place_from_name : (place : ℕ) (lines : List LineParts) → IsPolicy lines → 1 ≤ place → place ≤ length lines + 1 →
    place_named (name_at lines place) lines ≡ place
place_from_name place lines policy first last = named_at place lines policy.distinct first last

-- A flagged value is OPAQUE in both points or in none.
flagged_same : (flag : Bool) (a b opaque : ℕ) → then_some flag a ≡ then_some flag b → (flag && (a == opaque)) ≡ (flag && (b == opaque))
flagged_same true a b opaque same = let e : a ≡ b = cc in ap (λ (n : ℕ). n == opaque) e
flagged_same false a b opaque same = refl

lacks_same : (line : LineParts) (x y : PointFields) → pins_at (Some line) x ≡ pins_at (Some line) y → lacks_flagged line.pfp x ≡ lacks_flagged line.pfp y
lacks_same line x y same =
    ap₂ (λ (a b : Bool). a || b)
    (ap₂ (λ (a b : Bool). a || b)
    (flagged_same line.pfp.protocol x.protocol y.protocol opaque_protocol (ap (λ (p : Pins). p.protocol) same))
    (flagged_same line.pfp.local_port x.local_field y.local_field opaque_field (ap (λ (p : Pins). p.local_field) same)))
    (flagged_same line.pfp.remote_port x.remote_field y.remote_field opaque_field (ap (λ (p : Pins). p.remote_field) same))

judged_same : (d : Direction) (x y : PointFields) (found : Option LineParts) → pins_at found x ≡ pins_at found y → judged_at d x found ≡ judged_at d y found
judged_same d x y None same = refl
judged_same d x y (Some line) same =
    ap (λ (lacks : Bool). cond lacks Judgement.Discard (judgement_of d line.action)) (lacks_same line x y same)

-- Points of one key have one first line, where its name tells its place, and so one verdict.
module _ (d : Direction) (x y : PointFields) (lines : List LineParts)
    (told_x : place_named (name_at lines (first_place d x lines)) lines ≡ first_place d x lines)
    (told_y : place_named (name_at lines (first_place d y lines)) lines ≡ first_place d y lines)
    (one : key_of d x lines ≡ key_of d y lines) where
  place_same : first_place d x lines ≡ first_place d y lines
  place_same = sym told_x ∙ ap (λ (key : Key). place_named key.name lines) one ∙ told_y

  pins_same : pins_at (line_at lines (first_place d y lines)) x ≡ pins_at (line_at lines (first_place d y lines)) y
  pins_same = ap (λ (p : ℕ). pins_at (line_at lines p) x) (sym place_same) ∙ ap (λ (key : Key). key.pins) one

  pub verdict_same : verdict_of d x lines ≡ verdict_of d y lines
  verdict_same = λ i. record {
    line = place_same i;
    judgement = (ap (λ (p : ℕ). judged_at d x (line_at lines p)) place_same
        ∙ judged_same d x y (line_at lines (first_place d y lines)) pins_same) i;
  }

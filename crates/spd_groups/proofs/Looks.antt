-- The entry that a look finds.
use Rattle.std.proofs.Common.{◌≡◌, ℕ, ◌<◌, ◌≤◌, true, false, List, length, get_or, map, Some, None, option_map, sym, ap, ◌∙◌, ⊎_elim, arith}
use Rattle.std.specs.Prelude.{slice_get}
use Rattle.std.specs.List.{All, list_any}
use Rattle.std.proofs.lemmas.List.{get_or-map, length-map}
use Rattle.std.proofs.lemmas.List.Folds.{list_any_none}
use Rattle.std.proofs.lemmas.Option.{get_or_from_slice_get, slice_get-map, slice_get_cases}
use Rattle.sel_box.specs.declared.any_box.AnyBox.{AnyBox}
use Rattle.sel_box.specs.Boxes.{box_has}
use Rattle.sel_box.specs.Point.{PointFields}
use Rattle.spd_cut.specs.declared.entry.Entry.{Entry}
use Rattle.spd_cut.specs.Entries.{entries, entry_has}
use Rattle.spd_find.specs.Finding.{HasAt}
use Rattle.sel_box.specs.declared.packet.Direction.{Direction}
use Rattle.spd_line.specs.declared.judgement.Judgement.{Judgement}
use Rattle.spd_line.specs.declared.line.LineParts.{LineParts}
use Rattle.spd_line.specs.declared.line_boxes.LineBox.{LineBox}
use Rattle.spd_line.specs.First.{first_place, name_at, verdict_of}
use Rattle.spd_cache.specs.declared.key.Key.{Key}
use Rattle.spd_cache.specs.KeyOf.{key_of, place_named}
use Rattle.spd_cut.specs.Group.{group_of}
use Rattle.spd_groups.specs.declared.looking.Looked.{Looked}
use Rattle.spd_groups.specs.Groups.{looked}

abbrev region_of : Entry → AnyBox
region_of e = e.region

-- The entry whose region has the point at the index.
pub record Found (x : PointFields) (es : List Entry) (index : ℕ) : Type 0 where
  pub within : index < length es
  pub has : (d : Entry) → entry_has (get_or es index d) x ≡ true

pub entry_found : (x : PointFields) (es : List Entry) (index : ℕ) → HasAt x (map (λ (e : Entry). e.region) es) index → Found x es index
entry_found x es index found = ⊎_elim there past (slice_get_cases es index).1
  where
    there : (e : Entry) × (index < length es) × (slice_get es index ≡ Some e) × (get_or es index e ≡ e) → Found x es index
    there at =
        let mapped : slice_get (map region_of es) index ≡ Some at.0.region = slice_get-map region_of es index ∙ ap (option_map region_of) at.2 in
        let was : slice_get (map region_of es) index ≡ Some found.region = found.at in
        let same : at.0.region ≡ found.region = cc in
        record {
          within = at.1;
          has = λ d. ap (λ (e : Entry). entry_has e x) (get_or_from_slice_get es index at.0 d at.2) ∙ ap (λ (r : AnyBox). box_has r x) same ∙ found.has;
        }

    past : (length es ≤ index) × (slice_get es index ≡ None) → Found x es index
    past out =
        let mapped : slice_get (map region_of es) index ≡ None = slice_get-map region_of es index ∙ ap (option_map region_of) out.1 in
        let was : slice_get (map region_of es) index ≡ Some found.region = found.at in
        cc

pub no_entry : (x : PointFields) (es : List Entry) → All (λ region. box_has region x ≡ false) (map (λ (e : Entry). e.region) es) →
    list_any (λ e. entry_has e x) es ≡ false
no_entry x es none =
    list_any_none (λ e. entry_has e x) es
    (λ k d below.
    let many = length-map es region_of in
    ap (λ (r : AnyBox). box_has r x) (sym (get_or-map region_of es k d (region_of d) below)) ∙ none k (region_of d) (omega (arith, below)))

-- What is found by the entry that has the point is what the policy says.
pub looked_is : (d : Direction) (x : PointFields) (lines : List LineParts) (list : List Entry) (key : Key) (link : ℕ) (judgement : Judgement)
    (group : List LineBox) → list ≡ entries d lines → key ≡ key_of d x lines → link ≡ first_place d x lines →
    judgement ≡ (verdict_of d x lines).judgement → group ≡ group_of list link key.pins →
    place_named (name_at lines (first_place d x lines)) lines ≡ first_place d x lines →
    ◌≡◌ {A = Looked} record { answer = record { name = key.name; judgement = judgement }; key = key; group = group } (looked d x lines)
looked_is d x lines list key link judgement group list_is key_is link_is judged group_is told = λ i. record {
  answer = record { name = (key_is i).name; judgement = judged i };
  key = key_is i;
  group = (group_is ∙ (λ j. group_of (list_is j) ((link_is ∙ sym told) j) (key_is j).pins)) i;
}

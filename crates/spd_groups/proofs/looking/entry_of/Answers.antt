use Rattle.std.proofs.Common.{◌≡◌, List, Some, None, get_or, map, sym, ap, ◌∙◌}
use Rattle.std.proofs.lemmas.Bool.{both_ways}
use Rattle.sel_box.specs.declared.any_box.AnyBox.{AnyBox}
use Rattle.spd_cut.specs.declared.entry.Entry.{Entry}
use Rattle.spd_cut.specs.Entries.{entry_has}
use Rattle.spd_find.specs.Finding.{index_of}
use Rattle.spd_groups.proofs.Looks.{entry_found, no_entry}
use Rattle.spd_groups.proofs.looking.entry_of.Goals as goal

pub unreachable-requires : goal.unreachable-requires
unreachable-requires g c =
    let x = c.args.point.now in
    let es = c.args.list.now in
    let none : index_of x (map (λ (e : Entry). e.region) es) ≡ None =
    ap (λ (boxes : List AnyBox). index_of x boxes) (sym c.requires.boxes) ∙ sym c.find_uncounted.ensures ∙ c.in-None.is in
    both_ways _ (no_entry x es (c.the_box_that_has_the_point_is_found.ensures.none x (map (λ (e : Entry). e.region) es) none)) c.requires.some

pub returns-clause-has : goal.returns-clause-has
returns-clause-has g c =
    let x = c.args.point.now in
    let es = c.args.list.now in
    let some : index_of x (map (λ (e : Entry). e.region) es) ≡ Some c.in-Some.index =
    ap (λ (boxes : List AnyBox). index_of x boxes) (sym c.requires.boxes) ∙ sym c.find_uncounted.ensures ∙ c.in-Some.is in
    let at = c.the_box_that_has_the_point_is_found.ensures.has x (map (λ (e : Entry). e.region) es) c.in-Some.index some in
    let is : c.index-list-index.result ≡ get_or es c.in-Some.index c.index-list-index.result = c.index-list-index.is in
    ap (λ (e : Entry). entry_has e x) is ∙ (entry_found x es c.in-Some.index at).has c.index-list-index.result

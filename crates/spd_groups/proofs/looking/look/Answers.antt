use Rattle.std.proofs.Common.{◌≡◌, List, IsTrue, sym, ap, ◌∙◌, subst}
use Rattle.std.specs.List.Sorted.{IsNonDecreasingBy}
use Rattle.std.proofs.lemmas.List.Elements.{All-contains}
use Rattle.sel_box.proofs.RealPoints.{is_point-from_real}
use Rattle.spd_line.specs.First.{first_place, verdict_of}
use Rattle.spd_cut.specs.declared.entry.Entry.{Entry}
use Rattle.spd_cut.specs.Entries.{entry_has}
use Rattle.spd_cut.specs.Group.{group_of}
use Rattle.spd_cut.specs.StandsFor.{StandsFor}
use Rattle.spd_cut.proofs.Groups.{some_from_one}
use Rattle.spd_groups.proofs.Linked.{group_of-linked}
use Rattle.spd_groups.proofs.Looks.{looked_is}
use Rattle.spd_groups.proofs.looking.look.Goals as goal

pub entry_of-entry-requires-clause-some : goal.entry_of-entry-requires-clause-some
entry_of-entry-requires-clause-some g c =
    let lines = g.L.Lines.lines c.args.lines.now in
    let stands = subst (λ (es : List Entry). StandsFor es c.args.direction lines) (sym c.requires.entries)
    (c.entries_stand_for.ensures c.args.direction lines) in
    some_from_one c.args.point.now c.args.list.now (stands.one c.args.point.now c.requires.real)

pub key_at-key-requires-clause-first : goal.key_at-key-requires-clause-first
key_at-key-requires-clause-first g c =
    let lines = g.L.Lines.lines c.args.lines.now in
    let x = c.args.point.now in
    let stands = subst (λ (es : List Entry). StandsFor es c.args.direction lines) (sym c.requires.entries)
    (c.entries_stand_for.ensures c.args.direction lines) in
    All-contains (λ (e : Entry). IsTrue (entry_has e x) → e.link ≡ first_place c.args.direction x lines) c.args.list.now c.entry_of-entry.result.now
    (stands.link x (is_point-from_real x c.requires.real)) c.entry_of-entry.ensures.among c.entry_of-entry.ensures.has

pub linked_to-own-requires : goal.linked_to-own-requires
linked_to-own-requires g c =
    subst (λ (es : List Entry). IsNonDecreasingBy (λ (e : Entry). e.link) es) (sym c.requires.entries)
    (c.entries_come_in_the_order_of_lines.ensures c.args.direction (g.L.Lines.lines c.args.lines.now))

pub returns : goal.returns
returns g c =
    let lines = g.L.Lines.lines c.args.lines.now in
    let d = c.args.direction in
    let x = c.args.point.now in
    let stands = subst (λ (es : List Entry). StandsFor es d lines) (sym c.requires.entries) (c.entries_stand_for.ensures d lines) in
    let judged = All-contains (λ (e : Entry). IsTrue (entry_has e x) → e.judgement ≡ (verdict_of d x lines).judgement)
    c.args.list.now c.entry_of-entry.result.now
    (stands.judged x (is_point-from_real x c.requires.real)) c.entry_of-entry.ensures.among c.entry_of-entry.ensures.has in
    let link = All-contains (λ (e : Entry). IsTrue (entry_has e x) → e.link ≡ first_place d x lines) c.args.list.now c.entry_of-entry.result.now
    (stands.link x (is_point-from_real x c.requires.real)) c.entry_of-entry.ensures.among c.entry_of-entry.ensures.has in
    let told = c.names_tell_their_lines.ensures (first_place d x lines) lines c.requires.policy
    (c.the_first_line_is_the_least.ensures.low d x lines) (c.the_first_line_is_the_least.ensures.high d x lines) in
    let of_own = ap (λ (es : List Entry). group_of es c.entry_of-entry.result.now.link c.key_at-key.result.pins) c.linked_to-own.ensures in
    looked_is d x lines c.args.list.now c.key_at-key.result c.entry_of-entry.result.now.link c.entry_of-entry.result.now.judgement c.in_ok-group.group
    c.requires.entries c.key_at-key.ensures link judged
    (c.in_ok-group.ensures ∙ of_own ∙ group_of-linked c.args.list.now c.entry_of-entry.result.now.link c.key_at-key.result.pins)
    told

use Rattle.std.proofs.Common.{◌≡◌, List, Option, Some, None, IfSome, refl, ap₂, sym, subst, ◌∙◌}
use Rattle.sel_box.specs.declared.packet.Direction.TheVariants.{Outbound, Inbound}
use Rattle.spd_cut.specs.declared.entry.Entry.{Entry}
use Rattle.spd_cut.specs.Entries.{entries}
use Rattle.spd_cut.specs.StandsFor.{StandsFor}
use Rattle.spd_line.specs.Agree.{Agree}
use Rattle.spd_line.specs.declared.line.LineParts.{LineParts}
use Rattle.pair_gap.specs.declared.gap.Gap.{Gap}
use Rattle.pair_gap.specs.Gap.{IsLeastGap}
use Rattle.pair_gap.specs.LeastGap.{least_gap_of}
use Rattle.cmd_audit.proofs.Told.{HasPlaces-least}
use Rattle.cmd_audit.proofs.writing.find_gap.Goals as goal

-- Policies that agree have no least gap.
none_where_agreed : (a b : List LineParts) (found : Option Gap) → ((gap : Gap) → IsLeastGap a b gap → Agree a b → ⊥)
    → IfSome found (IsLeastGap a b) → Agree a b → None ≡ found
none_where_agreed a b None never some agree = refl
none_where_agreed a b (Some gap) never some agree = absurd (never gap some agree)

pub returns-then-alike-clause-gap : goal.returns-then-alike-clause-gap
returns-then-alike-clause-gap c =
    let a = c.args.a.now in
    let b = c.args.b.now in
    none_where_agreed a b (least_gap_of (entries Outbound a) (entries Inbound b)) (c.one_least_gap.ensures.none a b)
    (c.the_least_gap_is_found.ensures.some a b (entries Outbound a) (entries Inbound b) (c.entries_stand_for.ensures Outbound a)
    (c.entries_stand_for.ensures Inbound b))
    (c.in_ok-alike.ensures.0 c.if-alike.true)

pub returns-clause-gap : goal.returns-clause-gap
returns-clause-gap c =
    c.least_gap.ensures.value
    ∙ ap₂ (λ (outbound inbound : List Entry). least_gap_of outbound inbound) c.requires.outbound (c.in_ok-peer.ensures ∙ c.requires.inbound)

pub returns-clause-places : goal.returns-clause-places
returns-clause-places c =
    HasPlaces-least (record { low = c.the_first_line_is_the_least.ensures.low; high = c.the_first_line_is_the_least.ensures.high })
    c.args.a.now c.args.b.now c.least_gap.result
    (c.least_gap.ensures.some c.args.a.now c.args.b.now
    (subst (λ (es : List Entry). StandsFor es Outbound c.args.a.now) (sym c.requires.outbound) (c.entries_stand_for.ensures Outbound c.args.a.now))
    (subst (λ (es : List Entry). StandsFor es Inbound c.args.b.now) (sym (c.in_ok-peer.ensures ∙ c.requires.inbound))
    (c.entries_stand_for.ensures Inbound c.args.b.now)))

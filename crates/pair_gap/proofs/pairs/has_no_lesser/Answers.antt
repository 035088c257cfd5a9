use Rattle.std.proofs.Common.{sym, ◌∙◌}
use Rattle.std.proofs.lemmas.Bool.{OnTrue_from}
use Rattle.pair_gap.specs.inner.Peer.{HasNoLesser}
use Rattle.pair_gap.proofs.pairs.has_no_lesser.Goals as goal

-- The least packet of the entry comes before each other.
pub returns-in-Some-Some : goal.returns-in-Some-Some
returns-in-Some-Some c =
    OnTrue_from c.is_at_most.result (HasNoLesser c.args.best.now c.args.entry.now)
    (λ first p has.
    rw c.in-Some-Some.is-0
    (c.packet_order.ensures.order.transitive c.in-Some-Some.best.packet c.in-Some-Some.first p
    (sym c.is_at_most.ensures ∙ first) (c.in-Some-Some.ensures.found.least p has)))

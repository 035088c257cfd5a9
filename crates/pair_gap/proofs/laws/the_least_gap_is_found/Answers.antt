use Rattle.pair_gap.proofs.Standing.{least_gap_of-none, least_gap_of-some}
use Rattle.pair_gap.proofs.laws.the_least_gap_is_found.Goals as goal

pub returns-clause-some : goal.returns-clause-some
returns-clause-some c =
    least_gap_of-some c.packet_order.ensures.order
    (record { reflexive = c.judgements_are_compared.ensures.reflexive; equal = c.judgements_are_compared.ensures.equal })

pub returns-clause-none : goal.returns-clause-none
returns-clause-none c =
    least_gap_of-none c.packet_order.ensures.order
    (record { reflexive = c.judgements_are_compared.ensures.reflexive; equal = c.judgements_are_compared.ensures.equal })

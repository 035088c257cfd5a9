use Rattle.std.proofs.Common.{◌∙◌}
use Rattle.pair_gap.proofs.Differing.{gap_regions-have}
use Rattle.pair_gap.proofs.Standing.{some_differs-stands}
use Rattle.pair_gap.proofs.laws.regions_have_the_gaps.Goals as goal

pub returns : goal.returns
returns c = λ a b outbound inbound p stands stands' packet.
    gap_regions-have outbound inbound p packet ∙ some_differs-stands a b outbound inbound p stands stands' packet

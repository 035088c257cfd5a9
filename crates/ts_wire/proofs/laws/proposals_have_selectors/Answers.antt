use Rattle.ts_wire.proofs.Values.{proposal_of-selectors}
use Rattle.ts_wire.proofs.laws.proposals_have_selectors.Goals as goal

pub returns : goal.returns
returns c = proposal_of-selectors

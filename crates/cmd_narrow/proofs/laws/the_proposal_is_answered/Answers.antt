use Rattle.cmd_narrow.proofs.Answered.{answered}
use Rattle.cmd_narrow.proofs.laws.the_proposal_is_answered.Goals as goal

pub returns : goal.returns
returns c =
    answered (record {
      stands = c.entries_stand_for.ensures;
      selectors = c.proposals_have_selectors.ensures;
      right = c.narrowing_is_right.ensures;
    })

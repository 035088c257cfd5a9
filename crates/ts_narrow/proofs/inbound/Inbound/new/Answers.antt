use Rattle.std.proofs.Common.{◌∙◌}
use Rattle.ts_narrow.proofs.inbound.Inbound.new.Goals as goal

pub invariant_of-result : goal.invariant_of-result
invariant_of-result c = c.in_ok-regions.ensures ∙ c.in_ok-list.ensures

use Rattle.spd_cache.proofs.Hits.{is_some-first_hit}
use Rattle.spd_cache.proofs.laws.points_of_groups_are_answered.Goals as goal

pub returns : goal.returns
returns c = is_some-first_hit

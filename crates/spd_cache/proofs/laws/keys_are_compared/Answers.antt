use Rattle.spd_cache.specs.laws.Keys.{key_decides}
use Rattle.spd_cache.proofs.laws.keys_are_compared.Goals as goal

pub returns : goal.returns
returns c = key_decides

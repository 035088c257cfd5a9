use Rattle.spd_cache.proofs.Named.{place_from_name}
use Rattle.spd_cache.proofs.laws.names_tell_their_lines.Goals as goal

pub returns : goal.returns
returns c = place_from_name

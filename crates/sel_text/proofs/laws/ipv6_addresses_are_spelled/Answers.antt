use Rattle.sel_text.proofs.Spelled.{spelled_is_read, read_is_spelled}
use Rattle.sel_text.proofs.laws.ipv6_addresses_are_spelled.Goals as goal

pub returns : goal.returns
returns c = λ text address. (spelled_is_read text address, read_is_spelled text address)

use Rattle.cert_text.proofs.ReadBack.{node_of-text}
use Rattle.cert_text.proofs.laws.nodes_read_back.Goals as goal

pub returns : goal.returns
returns c = node_of-text

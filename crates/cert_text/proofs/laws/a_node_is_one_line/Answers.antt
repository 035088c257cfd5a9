use Rattle.cert_text.proofs.ReadBack.{lines_of-node}
use Rattle.cert_text.proofs.laws.a_node_is_one_line.Goals as goal

pub returns : goal.returns
returns c = lines_of-node

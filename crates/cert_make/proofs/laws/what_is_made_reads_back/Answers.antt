use Rattle.cert_make.proofs.ReadsBack.{certificate-back}
use Rattle.cert_make.proofs.laws.what_is_made_reads_back.Goals as goal

pub returns : goal.returns
returns c = certificate-back (record { back = c.nodes_read_back.ensures; line = c.a_node_is_one_line.ensures })

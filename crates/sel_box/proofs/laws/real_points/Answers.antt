use Rattle.sel_box.proofs.BoxPackets.{has_packet-some, has_real_point-some}
use Rattle.sel_box.proofs.laws.real_points.Goals as goal

pub returns-clause-real : goal.returns-clause-real
returns-clause-real c = has_real_point-some

pub returns-clause-packet : goal.returns-clause-packet
returns-clause-packet c = has_packet-some

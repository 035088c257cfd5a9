use Rattle.std.proofs.Common.{refl}
use Rattle.sel_box.proofs.RealPoints.{is_point-from_real}
use Rattle.spd_cut.proofs.laws.each_packet_has_one_entry.Goals as goal

pub returns-clause-one : goal.returns-clause-one
returns-clause-one c = λ d p lines list packet stands. stands.one _ (d, (p, (packet, refl)))

pub returns-clause-link : goal.returns-clause-link
returns-clause-link c = λ d p lines list packet stands.
    stands.link _ (is_point-from_real _ (d, (p, (packet, refl))))

pub returns-clause-judged : goal.returns-clause-judged
returns-clause-judged c = λ d p lines list packet stands.
    stands.judged _ (is_point-from_real _ (d, (p, (packet, refl))))

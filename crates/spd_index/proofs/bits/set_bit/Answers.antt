use Rattle.spd_index.proofs.WordBits.{HasBit-set, KeepsBits-set}
use Rattle.spd_index.proofs.bits.set_bit.Goals as goal

pub returns-clause-set : goal.returns-clause-set
returns-clause-set c = HasBit-set _ _ _ c.requires.at c.requires.bit

pub returns-clause-kept : goal.returns-clause-kept
returns-clause-kept c = KeepsBits-set _ _ _ c.requires.at

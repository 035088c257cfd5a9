use Rattle.sel_text.specs.declared.address.Address.TheVariants.{Four, Six}
use Rattle.sel_text.proofs.FourBack.{address_meaning-four}
use Rattle.sel_text.proofs.SixBack.{address_meaning-six}
use Rattle.sel_text.proofs.laws.addresses_read_back.Goals as goal

pub returns : goal.returns
returns c = elim [ Four address ↦ address_meaning-four address | Six address ↦ address_meaning-six address ]

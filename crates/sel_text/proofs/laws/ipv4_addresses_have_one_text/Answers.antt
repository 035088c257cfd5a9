use Rattle.sel_text.proofs.OneText.{four_has_one_text}
use Rattle.sel_text.proofs.laws.ipv4_addresses_have_one_text.Goals as goal

pub returns : goal.returns
returns c = four_has_one_text

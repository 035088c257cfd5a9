use Rattle.std.proofs.Common.{arith}
use Rattle.sel_text.proofs.OneText.{number_meaning_one}
use Rattle.sel_text.proofs.laws.numbers_have_one_text.Goals as goal

pub returns : goal.returns
returns c = λ most text value small is. number_meaning_one most text value (omega arith) is

use Rattle.std.proofs.Common.{arith}
use Rattle.sel_text.proofs.Decimals.{number_meaning-decimal}
use Rattle.sel_text.proofs.laws.numbers_read_back.Goals as goal

pub returns : goal.returns
returns c = λ value most small within. number_meaning-decimal most value (omega arith) within

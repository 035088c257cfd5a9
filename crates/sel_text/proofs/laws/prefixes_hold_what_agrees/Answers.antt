use Rattle.sel_text.proofs.Prefixes.{agrees, within}
use Rattle.sel_text.proofs.laws.prefixes_hold_what_agrees.Goals as goal

pub returns : goal.returns
returns c = λ address host_bits other. (agrees address host_bits other, within address host_bits other)

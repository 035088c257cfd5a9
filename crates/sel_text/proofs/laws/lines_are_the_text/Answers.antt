use Rattle.sel_text.proofs.Lines.{concat-lines_of}
use Rattle.sel_text.proofs.laws.lines_are_the_text.Goals as goal

pub returns : goal.returns
returns c = concat-lines_of

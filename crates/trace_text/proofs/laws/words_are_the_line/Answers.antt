use Rattle.trace_text.proofs.Wholes.{concat-words_of}
use Rattle.trace_text.proofs.laws.words_are_the_line.Goals as goal

pub returns : goal.returns
returns c = concat-words_of

use Rattle.trace_text.proofs.Blamed.{bad_word_number}
use Rattle.trace_text.proofs.laws.bad_words_are_of_the_line.Goals as goal

pub returns : goal.returns
returns c = bad_word_number

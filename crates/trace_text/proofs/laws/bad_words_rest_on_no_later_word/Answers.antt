use Rattle.trace_text.proofs.Blamed.{bad_word_again}
use Rattle.trace_text.proofs.laws.bad_words_rest_on_no_later_word.Goals as goal

pub returns : goal.returns
returns c = bad_word_again

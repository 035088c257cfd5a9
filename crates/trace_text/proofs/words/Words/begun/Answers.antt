use Rattle.std.proofs.Common.{sym, ◌∙◌}
use Rattle.trace_text.proofs.Wording.{begins_word, words_of-none}
use Rattle.trace_text.proofs.words.Words.begun.Goals as goal

pub returns-then-is_empty : goal.returns-then-is_empty
returns-then-is_empty c =
    words_of-none c.args.self.now.text.now c.without_first_spaces-begun.result.now c.without_first_spaces-begun.ensures (sym c.is_empty.ensures
    ∙ c.if-is_empty.true)

pub returns-else-is_empty : goal.returns-else-is_empty
returns-else-is_empty c =
    begins_word c.args.self.now.text.now c.without_first_spaces-begun.result.now c.without_first_spaces-begun.ensures (sym c.is_empty.ensures
    ∙ c.if-is_empty.false)

use Rattle.sel_text.proofs.FirstPlaces.{unwrap_or-position}
use Rattle.trace_text.proofs.spaces.word_len.Goals as goal

pub returns : goal.returns
returns c = rw (c.unwrap_or.ensures, c.place_of.ensures) (unwrap_or-position _ c.args.text.now)

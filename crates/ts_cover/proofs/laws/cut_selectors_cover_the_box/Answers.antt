use Rattle.ts_cover.proofs.CutSides.{cut_selectors-cover}
use Rattle.ts_cover.proofs.laws.cut_selectors_cover_the_box.Goals as goal

pub returns : goal.returns
returns c = cut_selectors-cover

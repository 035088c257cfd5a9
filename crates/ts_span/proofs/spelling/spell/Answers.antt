use Rattle.ts_span.proofs.Spelled.{spelled_few, spelled_real, spelled_selectors, spelled_selects}
use Rattle.ts_span.proofs.spelling.spell.Goals as goal

pub returns-clause-exact : goal.returns-clause-exact
returns-clause-exact c = spelled_selects c.args.span.now c.requires.span c.requires.writable

pub returns-clause-real : goal.returns-clause-real
returns-clause-real c = spelled_real c.args.span.now c.requires.span c.requires.writable

pub returns-clause-selectors : goal.returns-clause-selectors
returns-clause-selectors c = spelled_selectors c.args.span.now c.requires.span c.requires.writable

pub returns-clause-few : goal.returns-clause-few
returns-clause-few c = spelled_few c.args.span.now c.requires.span c.requires.writable

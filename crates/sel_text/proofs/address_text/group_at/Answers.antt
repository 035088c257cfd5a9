use Rattle.std.proofs.Common.{arith}
use Rattle.std.proofs.lemmas.Grind.{common_steps}
use Rattle.sel_text.proofs.Groups.{two_to_groups}
use Rattle.sel_text.proofs.address_text.group_at.Goals as goal

pub returns : goal.returns
returns c = rw (two_to_groups c.args.place) (grind (arith, common_steps))

use Rattle.std.proofs.Common.{◌≡◌, ◌<◌, length, arith}
use Rattle.std.proofs.lemmas.Bool.Decides.{nat_tests}
use Rattle.std.proofs.lemmas.List.{nil_from_length}
use Rattle.sel_blocks.proofs.Joins.{joined-remove}
use Rattle.sel_blocks.proofs.blocks.arrange_at.Goals as goal

pub returns-then-is_empty-clause-same : goal.returns-then-is_empty-clause-same
returns-then-is_empty-clause-same g c =
    let blocks = c.args.blocks.now.items in
    let block = c.index.result.now in
    let below : c.args.at < length blocks = omega (arith, c.args.blocks.now.ok.0) in
    let none : length block ≡ 0 = grind (arith, nat_tests, c.if-is_empty.ensures) in
    rw c.remove-empty.ensures.items (joined-remove blocks c.args.at block below c.index.ensures (nil_from_length block none))

use Rattle.std.proofs.Common.{◌≡◌, ◌-◌, ◌++◌, ◌∷◌, [], arith}
use Rattle.std.proofs.lemmas.Result.{on_ok_weaker}
use Rattle.sel_blocks.proofs.Joins.{joined-set_last}
use Rattle.sel_blocks.proofs.blocks.Blocks.push.Goals as goal

pub returns-then-len-lt-ROOM-clause-ok : goal.returns-then-len-lt-ROOM-clause-ok
returns-then-len-lt-ROOM-clause-ok g c =
    let blocks = c.self.inside.blocks in
    on_ok_weaker c.push.result
    (λ (is : c.push.new.self ≡ c.index_mut.result.now ++ c.args.region ∷ []). rw (is, ← c.self.view_is)
    (joined-set_last blocks.items (c.len-count.result - 1) c.index_mut.result.now (c.args.region ∷ [])
    (omega (arith, blocks.ok.0)) (omega (arith, blocks.ok.0)) c.index_mut.ensures.value))
    c.push.ensures.ok

use Rattle.std.proofs.Common.{◌≡◌, ◌/◌, ◌+◌, ◌<◌, ◌++◌, ◌∙◌, sym, ap, length, take, get_or, arith}
use Rattle.std.proofs.lemmas.List.{get_or_default, take-append-drop}
use Rattle.std.proofs.lemmas.List.Edits.{get_or-insert_below}
use Rattle.sel_blocks.proofs.Joins.{joined-parted}
use Rattle.sel_blocks.proofs.blocks.part.Goals as goal

pub returns-clause-same : goal.returns-clause-same
returns-clause-same g c =
    let blocks = c.args.blocks.now.items in
    let at = c.args.at in
    let block = c.index-2.result.now in
    let lent = c.index_mut.result.now in
    let half = c.len-half.result / 2 in
    let below : at < length blocks = omega (arith, c.args.blocks.now.ok.0) in
    let same : lent ≡ block =
    c.index_mut.ensures.value
    ∙ ap (λ xs. get_or xs at lent) c.in_ok-insert.ensures.items
    ∙ get_or-insert_below blocks (at + 1) c.in_ok-rest.rest lent at (omega arith) (omega arith)
    ∙ get_or_default blocks at lent block below
    ∙ sym c.index-2.ensures in
    rw (c.in_ok-insert.ensures.items, c.truncate.ensures, same)
    (joined-parted blocks at block (take half block) c.in_ok-rest.rest below c.index-2.ensures
    (ap (λ rest. take half block ++ rest) c.in_ok-rest.ensures ∙ take-append-drop half block))

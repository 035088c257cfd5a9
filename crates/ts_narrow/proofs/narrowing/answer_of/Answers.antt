use Rattle.std.proofs.Common.{sym, ap, ◌∙◌}
use Rattle.std.specs.Option.{is_some}
use Rattle.ts_narrow.specs.Meets.{meets}
use Rattle.ts_narrow.specs.Narrowing.{misses}
use Rattle.ts_narrow.proofs.Answering.{same_pair}
use Rattle.ts_narrow.proofs.Found.{find-any}
use Rattle.ts_narrow.proofs.narrowing.answer_of.Goals as goal

pub returns : goal.returns
returns c =
    same_pair _ _ _ _ c.args.chosen.now.link _ _ c.in_ok-tsi.ensures c.in_ok-tsr.ensures
    (c.is_some-additional.ensures ∙ ap is_some c.in_ok-first_meet.ensures
    ∙ sym (find-any (misses c.args.cover.now c.args.chosen.now.region) (meets c.args.outbound.now c.args.inbound.now)))

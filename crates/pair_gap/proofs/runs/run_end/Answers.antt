use Rattle.std.proofs.Common.{◌<◌, length, sym, ◌∙◌, arith}
use Rattle.pair_gap.proofs.Alike.{IsRun-more, IsRun-one}
use Rattle.pair_gap.proofs.runs.run_end.Goals as goal

pub loop-end-init : goal.loop-end-init
loop-end-init c = record { run = IsRun-one c.args.entries.now c.args.from; within = omega arith }

pub loop-end-preserved : goal.loop-end-preserved
loop-end-preserved c =
    record {
      run =
          IsRun-more c.args.entries.now c.args.from c.loop-end.end c.index-entries-from.result c.index-entries-end.result
          c.loop-end.invariant.run c.requires c.loop-end-test.true c.index-entries-from.is c.index-entries-end.is
          (c.judgements_are_compared.ensures.equal _ _ (sym c.are_judged_alike.ensures ∙ c.if-are_judged_alike.true));
      within = omega arith;
    }

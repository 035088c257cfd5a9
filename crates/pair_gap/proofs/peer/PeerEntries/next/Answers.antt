use Rattle.std.proofs.Common.{◌∙◌, sym, ap, arith}
use Rattle.pair_gap.proofs.Passed.{behind_run, passed_to_end, passed_to_met, passed_to_run, within_kept}
use Rattle.pair_gap.proofs.peer.PeerEntries.next.Goals as goal

pub returns-then-not-are_judged_alike-clause-passed : goal.returns-then-not-are_judged_alike-clause-passed
returns-then-not-are_judged_alike-clause-passed c =
    let kept = rw c.self.view_is at c.self.invariant in
    let met = c.the_first_box_that_meets_is_found.ensures.found _ _ _ _ (sym c.in-Some.ensures) in
    passed_to_met c.args.entry.now c.args.self.now c.self.inside.regions c.self.inside.ends c.args.from c.loop-index.first c.in-Some.index
    kept c.loop-index.invariant.passed met

pub loop-index-preserved : goal.loop-index-preserved
loop-index-preserved c =
    let kept = rw c.self.view_is at c.self.invariant in
    let met = c.the_first_box_that_meets_is_found.ensures.found _ _ _ _ (sym c.in-Some.ensures) in
    let past = behind_run c.args.entry.now c.args.self.now c.self.inside.regions c.self.inside.ends c.loop-index.first c.in-Some.index kept met in
    rw c.as_slice.ensures (record {
      low = omega (arith, past.0, c.loop-index.invariant.low);
      passed =
          passed_to_run c.args.entry.now c.index-self-index.result c.args.self.now c.self.inside.regions c.self.inside.ends c.args.from
          c.loop-index.first c.in-Some.index kept c.loop-index.invariant.passed met (rw c.self.view_is at c.index-self-index.is)
          (rw c.index-self-index.is (sym c.are_judged_alike.ensures ∙ c.if-not-are_judged_alike.false));
    })

pub loop-index-smaller : goal.loop-index-smaller
loop-index-smaller c =
    let kept = rw c.self.view_is at c.self.invariant in
    let met = c.the_first_box_that_meets_is_found.ensures.found _ _ _ _ (sym c.in-Some.ensures) in
    rw c.as_slice.ensures
    (behind_run c.args.entry.now c.args.self.now c.self.inside.regions c.self.inside.ends c.loop-index.first c.in-Some.index kept met).1

pub returns-clause-none : goal.returns-clause-none
returns-clause-none c =
    passed_to_end c.args.entry.now c.args.self.now c.self.inside.regions c.self.inside.ends c.args.from c.loop-index.first (rw c.self.view_is at c.self.invariant)
    c.loop-index.invariant.passed (c.the_first_box_that_meets_is_found.ensures.none _ _ _ (sym c.in_default.ensures))

use Rattle.std.proofs.Common.{◌≡◌, ◌≤◌, [], ◌∷◌, ◌++◌, List, Some, length, refl, ◌∙◌, ap, subst, arith}
use Rattle.std.specs.Prelude.{slice_get}
use Rattle.std.proofs.lemmas.Iterator.Adapters.{YieldsList-from_vec}
use Rattle.std.proofs.lemmas.Iterator.Consumers.{YieldsList-end, YieldsList-turn}
use Rattle.std.proofs.lemmas.List.{length_push, take_all, take_more}
use Rattle.std.proofs.lemmas.Option.{slice_get_read}
use Rattle.std.proofs.lemmas.Result.{err_from_is_err_and}
use Rattle.spd_line.specs.declared.line.LineParts.{LineParts}
use Rattle.spd_line.specs.Policy.{IsPolicy, most_lines}
use Rattle.spd_order.proofs.MayEdit.{refused_end}
use Rattle.spd_order.proofs.Repeats.{policy_fault-policy}
use Rattle.spd_order.proofs.spd.Spd.from_lines.Goals as goal

pub returns-in_err-push-clause-fault : goal.returns-in_err-push-clause-fault
returns-in_err-push-clause-fault c =
    let gives = c.into_iter-line-iterator.ensures.into_iter_gives in
    let turn = YieldsList-turn (YieldsList-from_vec c.args.lines (gives.0 ∙ c.into_vec-line-items.ensures.items) (gives.1 ∙ c.into_vec-line-items.ensures.len))
    c.loop-line.yielded c.loop-line.line-iterator c.loop-line.yielded_by c.next.result c.next.new.self c.in-Some.line c.in-Some.is c.next.ensures.steps in
    let at : slice_get c.args.lines (length c.loop-line.yielded) ≡ Some c.in-Some.line =
    slice_get_read c.args.lines (length c.args.lines) (length c.loop-line.yielded) c.in-Some.line refl turn.0 turn.1 in
    let few : length c.args.lines ≤ most_lines = omega arith in
    let p = err_from_is_err_and c.from_residual-in_err-push.result c.from_residual-in_err-push.ensures.1 in
    rw (p.1, p.2) (refused_end c.args.lines (length c.loop-line.yielded) c.in-Some.line _ at few
    (rw c.loop-line.invariant.so_far at c.in_err-push.ensures.fault))

pub loop-line-preserved : goal.loop-line-preserved
loop-line-preserved c =
    let gives = c.into_iter-line-iterator.ensures.into_iter_gives in
    let turn = YieldsList-turn (YieldsList-from_vec c.args.lines (gives.0 ∙ c.into_vec-line-items.ensures.items) (gives.1 ∙ c.into_vec-line-items.ensures.len))
    c.loop-line.yielded c.loop-line.line-iterator c.loop-line.yielded_by c.next.result c.next.new.self c.in-Some.line c.in-Some.is c.next.ensures.steps in
    record {
      so_far = rw (length_push c.loop-line.yielded c.in-Some.line, take_more c.args.lines (length c.loop-line.yielded) c.in-Some.line turn.0, ← turn.1)
          (c.in_ok-push.ensures.ok ∙ ap (λ (ls : List LineParts). ls ++ c.in-Some.line ∷ []) c.loop-line.invariant.so_far);
      policy = c.in_ok-push.ensures.policy;
    }

pub returns-clause-made : goal.returns-clause-made
returns-clause-made c =
    let gives = c.into_iter-line-iterator.ensures.into_iter_gives in
    let end = YieldsList-end (YieldsList-from_vec c.args.lines (gives.0 ∙ c.into_vec-line-items.ensures.items) (gives.1 ∙ c.into_vec-line-items.ensures.len))
    c.loop-line.yielded c.loop-line.line-iterator c.loop-line.yielded_by c.next.result c.next.new.self c.in-None.is c.next.ensures.steps in
    let all : c.loop-line.spd ≡ c.args.lines = c.loop-line.invariant.so_far ∙ take_all (length c.loop-line.yielded) c.args.lines (omega (arith, end.1)) in
    policy_fault-policy c.args.lines (subst IsPolicy all c.loop-line.invariant.policy)

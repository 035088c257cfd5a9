use Rattle.std.proofs.Common.{Bool, List, ◌++◌, ◌||◌, sym, ap, ◌∙◌, arith}
use Rattle.std.proofs.lemmas.List.{nil_from_length}
use Rattle.ts_cover.specs.RealParts.{leaves}
use Rattle.ts_narrow.specs.declared.leaving.Rest.{Rest}
use Rattle.ts_narrow.specs.inner.Rests.{rests_at, some_left}
use Rattle.ts_narrow.proofs.Waiting.{some_left-none, some_left-of, some_left-taken, work-last}
use Rattle.ts_narrow.proofs.leaving.leaves_some.Goals as goal

pub loop-rest-init : goal.loop-rest-init
loop-rest-init c =
    ap (some_left c.args.others.now)
    (c.in_ok-put_rests.ensures ∙ ap (λ (made : List Rest). made ++ rests_at 0 c.args.boxes.now) c.new-rests.ensures.items)
    ∙ some_left-of c.args.others.now 0 c.args.boxes.now

pub returns-then-left : goal.returns-then-left
returns-then-left c =
    let others = c.args.others.now in
    let now = c.is_left.new.rests.items in
    sym (ap (λ (left : Bool). left || some_left others now) c.if-left.true)
    ∙ some_left-taken others c.loop-rest.rests.items c.pop.new.self.items now c.in-Some.rest c.in_ok-left.left
    (leaves c.args.boxes.now others)
    c.in-Some.ensures.items c.in_ok-left.ensures.left c.loop-rest.invariant

pub loop-rest-preserved : goal.loop-rest-preserved
loop-rest-preserved c =
    let others = c.args.others.now in
    let now = c.is_left.new.rests.items in
    sym (ap (λ (left : Bool). left || some_left others now) c.if-left.false)
    ∙ some_left-taken others c.loop-rest.rests.items c.pop.new.self.items now c.in-Some.rest c.in_ok-left.left
    (leaves c.args.boxes.now others)
    c.in-Some.ensures.items c.in_ok-left.ensures.left c.loop-rest.invariant

pub loop-rest-smaller : goal.loop-rest-smaller
loop-rest-smaller c =
    let all = work-last c.args.others.now c.loop-rest.rests.items c.pop.new.self.items c.in-Some.rest c.in-Some.ensures.items in
    omega (arith, c.in_ok-left.ensures.less, all)

pub returns : goal.returns
returns c =
    some_left-none c.args.others.now c.loop-rest.rests.items (leaves c.args.boxes.now c.args.others.now)
    (nil_from_length c.loop-rest.rests.items (omega (arith, c.loop-rest.rests.ok, c.in_default.ensures.cases.0))) c.loop-rest.invariant

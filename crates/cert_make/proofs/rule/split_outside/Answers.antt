use Rattle.std.proofs.Common.{◌≡◌, ℕ, suc, ◌+◌, ◌<◌, List, length, drop, get_or, None, sym, ap, ◌∙◌, add-one, drop-cons}
use Rattle.sel_box.specs.declared.any_box.AnyBox.{AnyBox}
use Rattle.sel_box.specs.declared.any_box.AxisName.{AxisName}
use Rattle.sel_box.specs.Boxes.{range_at}
use Rattle.cert_make.specs.Rule.{axes, cut_value, split_along, split_or}
use Rattle.cert_make.proofs.rule.split_outside.Goals as goal

-- An axis on which the box lies in the other changes nothing.
axis_left : (b other : AnyBox) (some : List AxisName) (i : ℕ) (d : AxisName) → i < length some
    → cut_value (range_at (get_or some i d) b) (range_at (get_or some i d) other) ≡ None
    → split_along b other (drop (i + 1) some) ≡ split_along b other (drop i some)
axis_left b other some i d within none =
    rw add-one
    (sym (ap (split_along b other) (drop-cons some i d within)
    ∙ ap (λ value. split_or (get_or some i d) value (split_along b other (drop (suc i) some))) none))

pub loop-axis-preserved : goal.loop-axis-preserved
loop-axis-preserved c =
    axis_left c.args.region.now c.args.other.now axes c.loop-axis.axis-index _ c.loop-axis-test.true (sym c.cut_value.ensures ∙ c.in_default.is)
    ∙ c.loop-axis.invariant

use Rattle.std.proofs.Common.{Bool, ap, ◌∙◌}
use Rattle.sel_box.specs.declared.any_box.AnyBox.{AnyBox}
use Rattle.cert_text.specs.declared.node.Node.{Node}
use Rattle.cert_check.proofs.Sides.{sides-rule}
use Rattle.cert_check.proofs.rule.node_holds.Goals as goal

pub returns : goal.returns
returns c = λ a b ours_are theirs_are.
    c.holds.ensures
    ∙ ap (λ (rule : Node → AnyBox → Bool). rule c.args.node.now c.args.region.now)
    (sides-rule a b c.args.ours.now c.args.theirs.now ours_are theirs_are)

use Rattle.std.proofs.Common.{sym, ap, ◌∙◌}
use Rattle.sel_box.specs.declared.any_box.AnyBox.{AnyBox}
use Rattle.cert_text.specs.declared.node.Node.{Node}
use Rattle.cert_text.specs.Rows.{a_rows, b_rows}
use Rattle.cert_text.specs.Valid.{holds, valid, whole_boxes}
use Rattle.cert_make.specs.Trees.{trees_of}
use Rattle.cert_make.specs.inner.Sides.{AreSides, node_by}
use Rattle.cert_make.proofs.Steps.{made_rule}
use Rattle.cert_make.proofs.agreeing.agree.Goals as goal

pub returns : goal.returns
returns g c =
    let a = g.L.Lines.lines c.args.a.now in
    let b = g.M.Lines.lines c.args.b.now in
    let ours = c.in_ok-ours.ours in
    let theirs = c.in_ok-theirs.theirs in
    let sides : AreSides a b ours theirs = record { ours_are = c.in_ok-ours.ensures; theirs_are = c.in_ok-theirs.ensures } in
    let same = c.in_ok-yes.ensures a b sides in (
      λ is. c.valid_agrees.ensures a b (trees_of (node_by ours theirs) whole_boxes) (sym same ∙ is),
      λ agree. same
          ∙ ap (λ (rule : AnyBox → Node). valid (holds (a_rows a) (b_rows b)) (trees_of rule whole_boxes) whole_boxes) (made_rule a b ours theirs sides)
          ∙ c.made_is_valid.ensures a b agree,
    )

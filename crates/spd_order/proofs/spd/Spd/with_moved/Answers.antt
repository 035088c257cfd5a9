use Rattle.std.proofs.Common.{◌≡◌, length, Some, true, sym}
use Rattle.std.specs.Prelude.{slice_get}
use Rattle.spd_order.specs.Edits.{is_place}
use Rattle.spd_order.proofs.Previews.{with_moved}
use Rattle.spd_order.proofs.spd.Spd.with_moved.Goals as goal

pub new-requires : goal.new-requires
new-requires c =
    let fits : is_place c.args.place (length c.args.self.now) ≡ true = rw (← c.count.ensures.count) (sym c.if-not-is_place.ensures) in
    let at : slice_get c.args.self.now c.in-Some.index ≡ Some c.in-Some-line_at_index.line.now =
    rw (← c.self.view_is) (sym c.in-Some-line_at_index.ensures) in
    rw c.self.view_is
    (with_moved c.in-Some.index c.args.place c.in-Some-line_at_index.line.now c.args.self.now c.count-in-Some-line_at_index.result
    c.count.ensures.policy at fits c.count-in-Some-line_at_index.ensures.count)

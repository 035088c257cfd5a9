use Rattle.std.proofs.Common.{◌+◌, arith}
use Rattle.std.proofs.lemmas.Bool.{le-leb}
use Rattle.sel_text.proofs.Groups.{joined_shift, joined_fits}
use Rattle.sel_text.proofs.six.Groups.joined.Goals as goal

pub overflow_add-result : goal.overflow_add-result
overflow_add-result c =
    omega (
      arith,
      joined_shift c.self.inside.value c.self.inside.count (omega arith) c.self.invariant.1,
      joined_fits c.self.inside.value c.self.inside.count c.after.inside.value c.after.inside.count (omega arith) c.self.invariant.1 c.after.invariant.1,
    )

pub returns : goal.returns
returns c =
    let shifted = joined_shift c.self.inside.value c.self.inside.count (omega arith) c.self.invariant.1 in
    let room = le-leb (c.self.inside.count + c.after.inside.count) 7 c.if-self-after-gt7.false in
    rw (← c.self.view_is, ← c.after.view_is, room, shifted)

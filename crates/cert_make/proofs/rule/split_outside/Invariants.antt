use Rattle.std.proofs.Common.{◌≡◌, drop}
use Rattle.cert_make.specs.Rule.{axes, split_along}
use Rattle.cert_make.proofs.rule.split_outside.Given as goal

-- The axes that are left split the box as all do.
abbrev pub invariant-loop-axis : goal.invariant-loop-axis
invariant-loop-axis l = split_along l.region l.other (drop l.axis-index l.axis-items) ≡ split_along l.region l.other axes

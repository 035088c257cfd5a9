use Rattle.std.proofs.Common.{◌≡◌, take}
use Rattle.spd_line.specs.LineBoxes.{products}
use Rattle.spd_line.proofs.product_list.products.Given as goal

abbrev pub invariant-loop-first : goal.invariant-loop-first
invariant-loop-first g l = l.list.items ≡ products (take l.first-index l.firsts) l.seconds

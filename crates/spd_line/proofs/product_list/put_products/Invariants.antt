use Rattle.std.proofs.Common.{◌≡◌, ◌++◌, map, take}
use Rattle.sel_region.specs.Pair.{pair_of}
use Rattle.spd_line.proofs.product_list.put_products.Given as goal

abbrev pub invariant-loop-second : goal.invariant-loop-second
invariant-loop-second g l = l.list.items ≡ l.fn.list.items ++ map (λ second. pair_of l.first second) (take l.second-index l.seconds)

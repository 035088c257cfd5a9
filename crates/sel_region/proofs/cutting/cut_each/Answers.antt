use Rattle.sel_region.proofs.CutLists.{cut_from_first, uncut}
use Rattle.sel_region.proofs.cutting.cut_each.Goals as goal

pub returns-in-Some : goal.returns-in-Some
returns-in-Some g c =
    let cut = cut_from_first g.met.R.Region.laws c.args.region.now c.args.pieces.now.items c.in-Some.first (rw c.deref.ensures.value at c.in-Some.ensures) in
    rw cut at c.cut_from.ensures

pub returns-in-None : goal.returns-in-None
returns-in-None g c = record {
  ok = uncut g.met.R.Region.laws c.args.region.now c.args.pieces.now.items (rw c.deref.ensures.value at c.in-None.ensures);
  err = tt;
}

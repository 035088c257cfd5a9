use Rattle.std.proofs.Common.{◌≡◌, ◌++◌, map, take}
use Rattle.spd_views.specs.Listing.{listed, listed_in}
use Rattle.spd_views.proofs.listing.append_listings.Given as goal

abbrev pub invariant-loop-entry : goal.invariant-loop-entry
invariant-loop-entry l =
    map listed l.listings ≡ map listed l.initial.listings ++ listed_in l.view l.direction (take l.entry-index l.entries)

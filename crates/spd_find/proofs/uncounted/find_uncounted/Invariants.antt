use Rattle.spd_find.proofs.uncounted.find_uncounted.Given as goal

-- The ledger is that of the blank.
abbrev pub ghosts-find_with : goal.ghosts-find_with
ghosts-find_with g a = record { name = a.blank.name; parts = a.blank.parts }

-- Values that are read one after another.
use Rattle.std.proofs.Common.{List, ◌++◌, Result, Ok, Err}

-- What was read so far, and then the rest.
abbrev pub after : {A E : Type 0} → List A → Result (List A) E → Result (List A) E
after done (Ok rest) = Ok (done ++ rest)
after done (Err fault) = Err fault

-- A text that a parser takes is what the parser finds in it.
use Rattle.std.proofs.Common.{◌≡◌, ℕ, List, length, nat_eq, true, Option, Some, Ok, arith}
use Rattle.std.specs.Str.{IsUtf8}
use Rattle.std.proofs.lemmas.Str.{utf8_valid_len-IsUtf8}
use Rattle.spd_file.specs.Parsed.{parsed}

pub parsed-found : {A : Type 0} (parse : List ℕ → Option A) (bytes text : List ℕ) (found : A)
    → text ≡ bytes → IsUtf8 bytes → parse text ≡ Some found → parsed parse bytes ≡ Ok found
parsed-found parse bytes text found same valid is =
    let whole = utf8_valid_len-IsUtf8 bytes valid in
    let taken : parse bytes ≡ Some found = rw (← same) is in
    let yes : nat_eq (length bytes) (length bytes) ≡ true = grind arith in
    rw (whole, yes, taken)

-- Lists that grew part by part.
use Rattle.std.proofs.Common.{◌≡◌, ℕ, List, ◌++◌, Result, Ok, Err, append_assoc}
use Rattle.std.specs.Prelude.{OnOk}

pub on_ok : {T E P Q : Type 0} (r : Result T E) → OnOk r P → (P → Q) → OnOk r Q
on_ok (Ok x) p f = f p
on_ok (Err e) p f = tt

pub joined : (before head ports start last first second one two three four : List ℕ) → one ≡ before ++ head → two ≡ one ++ ports
    → three ≡ two ++ first → four ≡ three ++ second → first ≡ start → second ≡ last
    → four ≡ before ++ (head ++ (ports ++ (start ++ last)))
joined before head ports start last first second one two three four a b c d e f = rw (d, c, b, a, e, f) (simp append_assoc)

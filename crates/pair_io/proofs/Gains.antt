-- What a sink gained by one piece after another, for whoever writes a text in parts.
use Rattle.std.proofs.Common.{◌≡◌, ℕ, ◌+◌, ◌≤◌, min, List, [], ◌++◌, length, take, refl, sym, ◌∙◌, ap, arith, append_assoc, subst}
use Rattle.std.proofs.lemmas.List.{append-nil, take-append-le, take_min}
use Rattle.std.proofs.Math.Seq.{take-append_seam, take-append-add, take-length}
use Rattle.std.specs.Prelude.{Option, option_map, None, Some}
use Rattle.pair_io.specs.Gains.{Gains, GainsPrefix}

-- a text that stays gained nothing
pub Gains-nothing : (before now : Option (List ℕ)) → now ≡ before → Gains before now []
Gains-nothing None now same = same
Gains-nothing (Some text) now same = same ∙ ap Some (sym (append-nil text))

-- one after another
pub Gains-then :
    (before between now : Option (List ℕ)) (first second : List ℕ) →
    Gains before between first → Gains between now second → Gains before now (first ++ second)
Gains-then None between now first second gained then = then ∙ ap (option_map (λ text. text ++ second)) gained
Gains-then (Some text) between now first second gained then =
    then ∙ (ap (option_map (λ text. text ++ second)) gained ∙ ap Some (append_assoc text first second))

-- the first part of a text is a prefix of it
pub GainsPrefix-part :
    {before now : Option (List ℕ)} (first second : List ℕ) → Gains before now first → GainsPrefix before now (first ++ second)
GainsPrefix-part first second gained = record { count = length first; gained = rw take-append_seam gained }

-- a text that stays gained a prefix of any other
pub GainsPrefix-nothing : {before now : Option (List ℕ)} {bytes : List ℕ} → now ≡ before → GainsPrefix before now bytes
GainsPrefix-nothing {before} {now} same = record { count = 0; gained = Gains-nothing before now same }

-- all of a text is a prefix of it
pub GainsPrefix-all : {before now : Option (List ℕ)} {bytes : List ℕ} → Gains before now bytes → GainsPrefix before now bytes
GainsPrefix-all {bytes = bytes} gained = record { count = length bytes; gained = rw take-length gained }

-- a prefix of the first part
pub GainsPrefix-first :
    {before now : Option (List ℕ)} {first : List ℕ} (second : List ℕ) →
    GainsPrefix before now first → GainsPrefix before now (first ++ second)
GainsPrefix-first {first = first} second prefix =
    let within : min prefix.count (length first) ≤ length first = omega arith in
    record {
      count = min prefix.count (length first);
      gained = rw (take-append-le (min prefix.count (length first)) first second within, take_min) prefix.gained;
    }

-- all of the first part, and a prefix of the second
pub GainsPrefix-second :
    {before between now : Option (List ℕ)} (first : List ℕ) {second : List ℕ} →
    Gains before between first → GainsPrefix between now second → GainsPrefix before now (first ++ second)
GainsPrefix-second {before} {between} {now} first {second} gained prefix =
    record {
      count = length first + prefix.count;
      gained = rw take-append-add (Gains-then before between now first (take prefix.count second) gained prefix.gained);
    }

-- In a loop that writes: what was gained so far, with what is left behind it, is all.
pub record GainsSoFar (before now : Option (List ℕ)) (left all : List ℕ) : Type 0 where
  pub sent : List ℕ
  pub joins : sent ++ left ≡ all
  pub gained : Gains before now sent

pub GainsSoFar-start : (before now : Option (List ℕ)) (all : List ℕ) → now ≡ before → GainsSoFar before now all all
GainsSoFar-start before now all same = record { sent = []; joins = refl; gained = Gains-nothing before now same }

-- one more piece
pub GainsSoFar-more :
    {before between now : Option (List ℕ)} {left all : List ℕ} (piece next : List ℕ) → left ≡ piece ++ next →
    GainsSoFar before between left all → Gains between now piece → GainsSoFar before now next all
GainsSoFar-more {before} {between} {now} {left} {all} piece next splits so_far gained =
    record {
      sent = so_far.sent ++ piece;
      joins = rw (append_assoc, ← splits) so_far.joins;
      gained = Gains-then before between now so_far.sent piece so_far.gained gained;
    }

-- nothing left
pub GainsSoFar-end : {before now : Option (List ℕ)} {all : List ℕ} → GainsSoFar before now [] all → Gains before now all
GainsSoFar-end {before} {now} so_far =
    subst (Gains before now) (sym (append-nil so_far.sent) ∙ so_far.joins) so_far.gained

-- a piece that stopped in its middle
pub GainsSoFar-prefix :
    {before between now : Option (List ℕ)} {left all : List ℕ} (piece next : List ℕ) → left ≡ piece ++ next →
    GainsSoFar before between left all → GainsPrefix between now piece → GainsPrefix before now all
GainsSoFar-prefix {before} {between} {now} {left} {all} piece next splits so_far prefix =
    subst (GainsPrefix before now) (ap (λ (l : List ℕ). so_far.sent ++ l) (sym splits) ∙ so_far.joins)
    (GainsPrefix-second so_far.sent so_far.gained (GainsPrefix-first next prefix))

pub ruleset prefixes = (GainsPrefix-part, GainsPrefix-nothing, GainsPrefix-all, GainsPrefix-first, GainsPrefix-second)

-- for `using(pair_io::proofs::Gains::gains)` on a function that writes in parts
pub ruleset gains = (Gains-nothing, Gains-then, prefixes, GainsSoFar-start, GainsSoFar-more, GainsSoFar-end, GainsSoFar-prefix)

-- What stays known of a run whose end is said in other words, or whose text is handed on.
use Rattle.std.proofs.Common.{◌≡◌, ℕ, List, ◌++◌, take, drop, Option, Some, None, Result, Ok, Err, refl, ap, arith}
use Rattle.std.proofs.lemmas.List.{take-append-drop}
use Rattle.std.specs.Prelude.{option_map}
use Rattle.pair_io.specs.Counts.{Rose}
use Rattle.pair_io.specs.Gains.{GainsPrefix}
use Rattle.pair_io.proofs.Gains.{GainsPrefix-all, GainsPrefix-first}
use Rattle.audit_frame.specs.declared.refusal.Refusal.{Refusal}
use Rattle.audit_frame.specs.Answer.{Answer, map_answer, map_ended, text_of}
use Rattle.audit_frame.specs.Causes.{Causes, InputFile, Reads}
use Rattle.audit_frame.specs.Ends.{Ends, EndsBy, IsAnswer}
use Rattle.audit_frame.specs.Runs.{Counts, Leaves, Runs}
use Rattle.audit_frame.proofs.Lines.{text_of-append}

-- An end in other words.

IsAnswer-map : {A B : Type 0} (f : A → B) (answer : Answer A) (text text' : Option (List ℕ)) (ended : Result A Refusal)
    → IsAnswer answer text text' ended → IsAnswer (map_answer f answer) text text' (map_ended f ended)
IsAnswer-map f answer text text' ended is = record { ended_is = ap (map_ended f) is.ended_is; all_lines = is.all_lines }

EndsBy-map : {A B : Type 0} (f : A → B) (answer : Answer A) (text text' : Option (List ℕ)) (ended : Result A Refusal)
    → EndsBy answer text text' ended → EndsBy (map_answer f answer) text text' (map_ended f ended)
EndsBy-map f answer text text' (Ok end) ends = IsAnswer-map f answer text text' (Ok end) ends
EndsBy-map f answer text text' (Err Refusal.NoMemory) ends = ends
EndsBy-map f answer text text' (Err Refusal.WriteFault) ends = ends
EndsBy-map f answer text text' (Err (Refusal.ReadFault word)) ends = ends
EndsBy-map f answer text text' (Err (Refusal.TooLong word)) ends = IsAnswer-map f answer text text' (Err (Refusal.TooLong word)) ends
EndsBy-map f answer text text' (Err (Refusal.PolicyFault word fault)) ends = IsAnswer-map f answer text text' (Err (Refusal.PolicyFault word fault)) ends
EndsBy-map f answer text text' (Err (Refusal.EntryLimit word direction line at)) ends =
    IsAnswer-map f answer text text' (Err (Refusal.EntryLimit word direction line at)) ends

Ends-map : {A B : Type 0} (f : A → B) (answer : Option (Answer A)) (text text' : Option (List ℕ)) (ended : Result A Refusal)
    → Ends answer text text' ended → Ends (option_map (map_answer f) answer) text text' (map_ended f ended)
Ends-map f None text text' ended ends = tt
Ends-map f (Some answer) text text' ended ends = EndsBy-map f answer text text' ended ends

Causes-map : {A B : Type 0} (f : A → B) (files : List InputFile) (told : List ℕ → Option (List ℕ)) (before now : Reads)
    (ended : Result A Refusal) → Causes files told before now ended → Causes files told before now (map_ended f ended)
Causes-map f files told before now (Ok end) cause = cause
Causes-map f files told before now (Err refusal) cause = cause

Counts-map : {A B : Type 0} (f : A → B) (faults faults' : ℕ) (ended : Result A Refusal) → Counts faults faults' ended
    → Counts faults faults' (map_ended f ended)
Counts-map f faults faults' (Ok end) counted = counted
Counts-map f faults faults' (Err refusal) counted = counted

Leaves-map : {A B : Type 0} (f : A → B) (text text' : Option (List ℕ)) (ended : Result A Refusal) → Leaves text text' ended
    → Leaves text text' (map_ended f ended)
Leaves-map f text text' (Ok end) leaves = leaves
Leaves-map f text text' (Err refusal) leaves = leaves

pub Runs-map : {A B : Type 0} (f : A → B) (answer : Option (Answer A)) (files : List InputFile) (told : List ℕ → Option (List ℕ)) (before now : Reads)
    (faults faults' : ℕ) (text text' : Option (List ℕ)) (ended : Result A Refusal)
    → Runs answer files told before now faults faults' text text' ended
    → Runs (option_map (map_answer f) answer) files told before now faults faults' text text' (map_ended f ended)
Runs-map f answer files told before now faults faults' text text' ended runs = record {
  ends = Ends-map f answer text text' ended runs.ends;
  causes = Causes-map f files told before now ended runs.causes;
  counts = Counts-map f faults faults' ended runs.counts;
  leaves = Leaves-map f text text' ended runs.leaves;
}

-- The text handed on.

-- Some first lines are a prefix of the text.
GainsPrefix-lines : (lines : List (List ℕ)) (n : ℕ) (text text' : Option (List ℕ)) → GainsPrefix text text' (text_of (take n lines))
    → GainsPrefix text text' (text_of lines)
GainsPrefix-lines lines n text text' prefix =
    let all : text_of lines ≡ text_of (take n lines) ++ text_of (drop n lines) =
    rw (← text_of-append, take-append-drop) refl in
    rw all (GainsPrefix-first (text_of (drop n lines)) prefix)

-- However a run ended, what it wrote is a prefix of the answer's text.
EndsBy-prefix : {A : Type 0} (answer : Answer A) (text text' : Option (List ℕ)) (ended : Result A Refusal) → EndsBy answer text text' ended
    → GainsPrefix text text' (text_of answer.lines)
EndsBy-prefix answer text text' (Ok end) ends = GainsPrefix-all ends.all_lines
EndsBy-prefix answer text text' (Err Refusal.NoMemory) ends = ends
EndsBy-prefix answer text text' (Err Refusal.WriteFault) ends = ends
EndsBy-prefix answer text text' (Err (Refusal.ReadFault word)) ends = GainsPrefix-lines answer.lines ends.0 text text' (GainsPrefix-all ends.1)
EndsBy-prefix answer text text' (Err (Refusal.TooLong word)) ends = GainsPrefix-all ends.all_lines
EndsBy-prefix answer text text' (Err (Refusal.PolicyFault word fault)) ends = GainsPrefix-all ends.all_lines
EndsBy-prefix answer text text' (Err (Refusal.EntryLimit word direction line at)) ends = GainsPrefix-all ends.all_lines

Ends-prefix : {A : Type 0} (answer : Option (Answer A)) (text text' : Option (List ℕ)) (ended : Result A Refusal) → Ends answer text text' ended
    → Ends answer text text' (Err Refusal.WriteFault)
Ends-prefix None text text' ended ends = tt
Ends-prefix (Some answer) text text' ended ends = EndsBy-prefix answer text text' ended ends

Rose-onward : {A : Type 0} (faults between faults' : ℕ) (ended : Result A Refusal) → Counts faults between ended → Rose between faults' → Rose faults faults'
Rose-onward faults between faults' (Ok end) counted rose = omega arith
Rose-onward faults between faults' (Err Refusal.NoMemory) counted rose = omega arith
Rose-onward faults between faults' (Err Refusal.WriteFault) counted rose = omega arith
Rose-onward faults between faults' (Err (Refusal.ReadFault word)) counted rose = omega arith
Rose-onward faults between faults' (Err (Refusal.TooLong word)) counted rose = omega arith
Rose-onward faults between faults' (Err (Refusal.PolicyFault word fault)) counted rose = omega arith
Rose-onward faults between faults' (Err (Refusal.EntryLimit word direction line at)) counted rose = omega arith

-- So a run whose text couldn't be handed on ended by a fault of writing.
pub Runs-stuck : {A : Type 0} (answer : Option (Answer A)) (files : List InputFile) (told : List ℕ → Option (List ℕ)) (before now : Reads)
    (faults between faults' : ℕ) (text text' : Option (List ℕ)) (ended : Result A Refusal) → Rose between faults'
    → Runs answer files told before now faults between text text' ended
    → Runs answer files told before now faults faults' text text' (Err Refusal.WriteFault)
Runs-stuck answer files told before now faults between faults' text text' ended rose runs = record {
  ends = Ends-prefix answer text text' ended runs.ends;
  causes = tt;
  counts = Rose-onward faults between faults' ended runs.counts rose;
  leaves = tt;
}

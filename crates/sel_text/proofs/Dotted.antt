-- Four numbers with dots between them, by three cuts.
use Rattle.std.proofs.Common.{◌≡◌, ℕ, suc, Bool, true, false, ◌&&◌, cond, leb, ◌==◌, List, [], ◌∷◌, length, refl, sym, ap, ◌∙◌, Option, Some, None, option_map}
use Rattle.std.proofs.Common.{option_and_then, Result, Ok, Err, arith}
use Rattle.std.specs.List.{list_all}
use Rattle.std.specs.Char.{is_ascii_digit}
use Rattle.std.specs.Str.Parse.{digits_value}
use Rattle.std.proofs.lemmas.Bool.{and_parts, ne_eqb, false_from_ne_true, cond-false}
use Rattle.std.proofs.lemmas.Option.{none-some}
use Rattle.std.proofs.lemmas.List.Splits.{length-slice_split}
use Rattle.sel_text.specs.Number.{leads, is_number, number_in, number_meaning}
use Rattle.sel_text.specs.Parts.{cut, parts, each, pair}
use Rattle.sel_text.specs.Four.{dotted_in, are_octets, address_of_octets}
use Rattle.sel_text.specs.inner.Reading.{four_meaning}
use Rattle.sel_text.specs.inner.Reading.{both, quarters}
use Rattle.sel_text.specs.Fault.{bounded}
use Rattle.sel_text.specs.declared.fault.TextFault.{TextFault}
use Rattle.sel_text.specs.declared.fault.TextFault.TheVariants.{NotInGrammar, OutOfRange}
use Rattle.std.specs.Int.{from_be_bytes, w32}
use Rattle.std.specs.Int.Digits.{number_from_digits}
use Rattle.sel_text.proofs.Cuts.{tests_lack, cut_none, parts_from, parts-cut}
use Rattle.sel_text.proofs.Faults.{both-bounded}

-- a number has no separator
pub number_in-cut : (separator : ℕ) (text : List ℕ) (sides : List ℕ × List ℕ) → is_ascii_digit separator ≡ false → cut separator text ≡ Some sides
    → number_in text ≡ None
number_in-cut separator [] sides other is = refl
number_in-cut separator (byte ∷ more) sides other is =
    cond-false (is_number (byte ∷ more)) (Some (digits_value 10 (byte ∷ more))) None
    (false_from_ne_true (is_number (byte ∷ more))
    (λ number. none-some sides (sym (cut_none separator (byte ∷ more)
    (tests_lack is_ascii_digit separator (byte ∷ more) other (and_parts (leads byte more) (list_all is_ascii_digit (byte ∷ more)) number).1)) ∙ is)))

-- the octets in two pairs
abbrev pub quad : (ℕ × ℕ) × (ℕ × ℕ) → List ℕ
quad octets = octets.0.0 ∷ octets.0.1 ∷ octets.1.0 ∷ octets.1.1 ∷ []

pub dotted_in_none : (text : List ℕ) → cut 46 text ≡ None → dotted_in text ≡ None
dotted_in_none text whole = rw (parts-cut, whole)

pub dotted_in_one : (text first rest : List ℕ) → cut 46 text ≡ Some (first, rest) → cut 46 rest ≡ None → dotted_in text ≡ None
dotted_in_one text first rest one none = rw (parts-cut 46 text, one, parts-cut 46 rest, none)

pub dotted_in_two : (text first second rest last : List ℕ) → cut 46 text ≡ Some (first, rest) → cut 46 rest ≡ Some (second, last) → cut 46 last ≡ None
    → dotted_in text ≡ None
dotted_in_two text first second rest last one two none = rw (parts-cut 46 text, one, parts-cut 46 rest, two, parts-cut 46 last, none)

quad_each : (a b c d : Option ℕ) → option_and_then
    (λ first. option_map (λ rest. first ∷ rest)
    (option_and_then (λ first. option_map (λ rest. first ∷ rest)
    (option_and_then (λ first. option_map (λ rest. first ∷ rest) (option_and_then (λ first. option_map (λ (rest : List ℕ). first ∷ rest) (Some [])) d)) c)) b))
    a ≡ option_map quad (pair (pair a b) (pair c d))
quad_each None b c d = refl
quad_each (Some a) None c d = refl
quad_each (Some a) (Some b) None d = refl
quad_each (Some a) (Some b) (Some c) None = refl
quad_each (Some a) (Some b) (Some c) (Some d) = refl

quad_none : (a b c : Option ℕ) → option_map quad (pair (pair a b) (pair c None)) ≡ None
quad_none None b c = refl
quad_none (Some a) None c = refl
quad_none (Some a) (Some b) None = refl
quad_none (Some a) (Some b) (Some c) = refl

dotted_end : (first second third fourth : List ℕ) (sides : Option (List ℕ × List ℕ)) → cut 46 fourth ≡ sides
    → cond (length (first ∷ second ∷ third ∷ parts_from 46 fourth sides) == 4) (each number_in (first ∷ second ∷ third ∷ parts_from 46 fourth sides)) None
    ≡ option_map quad (pair (pair (number_in first) (number_in second)) (pair (number_in third) (number_in fourth)))
dotted_end first second third fourth None is = quad_each (number_in first) (number_in second) (number_in third) (number_in fourth)
dotted_end first second third fourth (Some sides) is =
    let more_parts = length-slice_split (λ byte. byte == 46) sides.1 in
    let not_four = ne_eqb (suc (suc (suc (suc (length (parts 46 sides.1)))))) 4 (λ four. omega arith) in
    rw (number_in-cut 46 fourth sides refl is, not_four, quad_none (number_in first) (number_in second) (number_in third))

pub dotted_in_three : (text first second third fourth rest last : List ℕ) → cut 46 text ≡ Some (first, rest) → cut 46 rest ≡ Some (second, last)
    → cut 46 last ≡ Some (third, fourth) → dotted_in text
    ≡ option_map quad (pair (pair (number_in first) (number_in second)) (pair (number_in third) (number_in fourth)))
dotted_in_three text first second third fourth rest last one two three =
    rw (
      parts-cut 46 text,
      one,
      parts-cut 46 rest,
      two,
      parts-cut 46 last,
      three,
      parts-cut 46 fourth,
    ) (dotted_end first second third fourth (cut 46 fourth) refl)

-- the two pairs of octets as their address
abbrev pub address_of_pairs : Result ((ℕ × ℕ) × (ℕ × ℕ)) TextFault → Result ℕ TextFault
address_of_pairs (Ok octets) = Ok (from_be_bytes w32 (quad octets))
address_of_pairs (Err fault) = Err fault

all_four : (a b c d : Bool) → (a && (b && (c && (d && true)))) ≡ ((a && b) && (c && d))
all_four false b c d = refl
all_four true false c d = refl
all_four true true false d = refl
all_four true true true false = refl
all_four true true true true = refl

quad_value : (a b c d : ℕ) → number_from_digits 256 (quad ((a, b), (c, d))) ≡ from_be_bytes w32 (quad ((a, b), (c, d)))
quad_value a b c d = omega arith

address_of_pairs-cond : (fit : Bool) (octets : (ℕ × ℕ) × (ℕ × ℕ))
    → cond fit (Ok (from_be_bytes w32 (quad octets))) (Err OutOfRange) ≡ address_of_pairs (cond fit (Ok octets) (Err OutOfRange))
address_of_pairs-cond true octets = refl
address_of_pairs-cond false octets = refl

abbrev octet : ℕ → Bool
octet number = leb number 255

quad_bounded : (octets : Option ((ℕ × ℕ) × (ℕ × ℕ)))
    → bounded are_octets address_of_octets (option_map quad octets)
    ≡ address_of_pairs (bounded (λ (w : (ℕ × ℕ) × (ℕ × ℕ)). (octet w.0.0 && octet w.0.1) && (octet w.1.0 && octet w.1.1)) (λ (w : (ℕ × ℕ) × (ℕ × ℕ)). w) octets)
quad_bounded None = refl
quad_bounded (Some w) =
    rw (all_four (octet w.0.0) (octet w.0.1) (octet w.1.0) (octet w.1.1), quad_value w.0.0 w.0.1 w.1.0 w.1.1)
    (address_of_pairs-cond ((octet w.0.0 && octet w.0.1) && (octet w.1.0 && octet w.1.1)) w)

pub four_meaning_three : (text first second third fourth rest last : List ℕ) → cut 46 text ≡ Some (first, rest) → cut 46 rest ≡ Some (second, last)
    → cut 46 last ≡ Some (third, fourth) → four_meaning text
    ≡ address_of_pairs (both (both (number_meaning 255 first) (number_meaning 255 second)) (both (number_meaning 255 third) (number_meaning 255 fourth)))
four_meaning_three text first second third fourth rest last one two three =
    rw (dotted_in_three text first second third fourth rest last one two three, both-bounded, both-bounded, both-bounded)
    (quad_bounded (pair (pair (number_in first) (number_in second)) (pair (number_in third) (number_in fourth))))

-- what a text means by its first three dots
abbrev pub four_from : Option ((List ℕ × List ℕ) × (List ℕ × List ℕ)) → Result ℕ TextFault
four_from None = Err NotInGrammar
four_from (Some q) =
    address_of_pairs (both (both (number_meaning 255 q.0.0) (number_meaning 255 q.0.1)) (both (number_meaning 255 q.1.0) (number_meaning 255 q.1.1)))

by_third : (text first second rest last : List ℕ) (sides : Option (List ℕ × List ℕ)) → cut 46 text ≡ Some (first, rest) → cut 46 rest ≡ Some (second, last)
    → cut 46 last ≡ sides → four_meaning text ≡ four_from (option_and_then (λ third. Some ((first, second), third)) sides)
by_third text first second rest last None one two is = ap (bounded are_octets address_of_octets) (dotted_in_two text first second rest last one two is)
by_third text first second rest last (Some sides) one two is = four_meaning_three text first second sides.0 sides.1 rest last one two is

by_second : (text first rest : List ℕ) (sides : Option (List ℕ × List ℕ)) → cut 46 text ≡ Some (first, rest) → cut 46 rest ≡ sides
    → four_meaning text ≡ four_from (option_and_then (λ second. option_and_then (λ third. Some ((first, second.0), third)) (cut 46 second.1)) sides)
by_second text first rest None one is = ap (bounded are_octets address_of_octets) (dotted_in_one text first rest one is)
by_second text first rest (Some sides) one is = by_third text first sides.0 rest sides.1 (cut 46 sides.1) one is refl

by_first : (text : List ℕ) (sides : Option (List ℕ × List ℕ)) → cut 46 text ≡ sides
    → four_meaning text ≡ four_from (option_and_then
    (λ first. option_and_then (λ second. option_and_then (λ third. Some ((first.0, second.0), third)) (cut 46 second.1)) (cut 46 first.1)) sides)
by_first text None is = ap (bounded are_octets address_of_octets) (dotted_in_none text is)
by_first text (Some sides) is = by_second text sides.0 sides.1 (cut 46 sides.1) is refl

pub four_meaning_by_quarters : (text : List ℕ) → four_meaning text ≡ four_from (quarters text)
four_meaning_by_quarters text = by_first text (cut 46 text) refl

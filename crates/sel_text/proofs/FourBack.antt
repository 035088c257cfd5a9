-- A printed IPv4 address is read as itself.
use Rattle.std.proofs.Common.{◌≡◌, ℕ, ◌/◌, ◌%◌, ◌^◌, ◌<◌, true, false, not, ◌==◌, List, [], ◌∷◌, ◌++◌, refl, ap, ◌∙◌, Some, Ok, decimal, arith}
use Rattle.std.specs.Char.{is_ascii_digit}
use Rattle.sel_text.specs.Parts.{cut}
use Rattle.std.specs.Int.{from_be_bytes, w32}
use Rattle.std.proofs.lemmas.Nat.{from_be_bytes-to_be_bytes_4}
use Rattle.std.proofs.lemmas.List.Folds.{list_all-append}
use Rattle.std.proofs.lemmas.Bool.{and_parts, and_from, or_from, not-true}
use Rattle.sel_text.specs.declared.address.Address.TheVariants.{Four}
use Rattle.sel_text.specs.Address.{has_colon, address_meaning}
use Rattle.sel_text.proofs.Faults.{mapped}
use Rattle.sel_text.specs.inner.Reading.{four_meaning}
use Rattle.sel_text.specs.inner.Reading.{quarters}
use Rattle.sel_text.specs.Text.{four_text}
use Rattle.sel_text.proofs.Cuts.{lacks, tests_lack, cut_at}
use Rattle.sel_text.proofs.Decimals.{number_meaning-decimal, digits-decimal}
use Rattle.sel_text.proofs.Dotted.{four_meaning_by_quarters}
use Rattle.sel_text.proofs.Families.{meaning_as_four}

-- four numbers with dots between them
abbrev dotted_text : ℕ → ℕ → ℕ → ℕ → List ℕ
dotted_text a b c d = decimal a ++ 46 ∷ (decimal b ++ 46 ∷ (decimal c ++ 46 ∷ decimal d))

decimal_lacks : (separator n : ℕ) → is_ascii_digit separator ≡ false → n < 10 ^ 64 → lacks separator (decimal n) ≡ true
decimal_lacks separator n other small = tests_lack is_ascii_digit separator (decimal n) other (digits-decimal n small)

cut-decimal : (n : ℕ) (back : List ℕ) → n < 256 → cut 46 (decimal n ++ 46 ∷ back) ≡ Some (decimal n, back)
cut-decimal n back small = cut_at 46 (decimal n) back (decimal_lacks 46 n refl (omega arith))

quarters-dotted : (a b c d : ℕ) → a < 256 → b < 256 → c < 256 → quarters (dotted_text a b c d) ≡ Some ((decimal a, decimal b), (decimal c, decimal d))
quarters-dotted a b c d one two three =
    rw (cut-decimal a (decimal b ++ 46 ∷ (decimal c ++ 46 ∷ decimal d)) one, cut-decimal b (decimal c ++ 46 ∷ decimal d) two, cut-decimal c (decimal d) three)

four_meaning-dotted : (a b c d : ℕ) → a < 256 → b < 256 → c < 256 → d < 256 → four_meaning (dotted_text a b c d) ≡ Ok (from_be_bytes w32 (a ∷ b ∷ c ∷ d ∷ []))
four_meaning-dotted a b c d one two three four =
    four_meaning_by_quarters (dotted_text a b c d)
    ∙ rw (
      quarters-dotted a b c d one two three,
      number_meaning-decimal 255 a (omega arith) (omega arith),
      number_meaning-decimal 255 b (omega arith) (omega arith),
      number_meaning-decimal 255 c (omega arith) (omega arith),
      number_meaning-decimal 255 d (omega arith) (omega arith),
    )

four_meaning-four_text : (address : ℕ) → address < 2 ^ 32 → four_meaning (four_text address) ≡ Ok address
four_meaning-four_text address small =
    four_meaning-dotted (address / 16777216 % 256) (address / 65536 % 256) (address / 256 % 256) (address % 256) (omega arith) (omega arith) (omega arith)
    (omega arith)
    ∙ ap Ok (from_be_bytes-to_be_bytes_4 address small)

-- a text without a colon
lacks_colon : (text : List ℕ) → lacks 58 text ≡ true → has_colon text ≡ false
lacks_colon [] free = refl
lacks_colon (byte ∷ more) free =
    let both = and_parts (not (byte == 58)) (lacks 58 more) free in
    or_from (byte == 58) (has_colon more) (not-true (byte == 58) both.0) (lacks_colon more both.1)

lacks-append : (separator : ℕ) (prefix back : List ℕ) → lacks separator prefix ≡ true → lacks separator back ≡ true → lacks separator (prefix ++ back) ≡ true
lacks-append separator prefix back one two =
    list_all-append (λ byte. not (byte == separator)) prefix back ∙ and_from (lacks separator prefix) (lacks separator back) one two

lacks-decimal : (n : ℕ) → n < 256 → lacks 58 (decimal n) ≡ true
lacks-decimal n small = decimal_lacks 58 n refl (omega arith)

lacks-dotted : (a b c d : ℕ) → a < 256 → b < 256 → c < 256 → d < 256 → lacks 58 (dotted_text a b c d) ≡ true
lacks-dotted a b c d one two three four =
    lacks-append 58 (decimal a) (46 ∷ (decimal b ++ 46 ∷ (decimal c ++ 46 ∷ decimal d))) (lacks-decimal a one)
    (lacks-append 58 (decimal b) (46 ∷ (decimal c ++ 46 ∷ decimal d)) (lacks-decimal b two)
    (lacks-append 58 (decimal c) (46 ∷ decimal d) (lacks-decimal c three) (lacks-decimal d four)))

pub address_meaning-four : (address : ℕ) → address < 2 ^ 32 → address_meaning (four_text address) ≡ Ok (Four address)
address_meaning-four address small =
    let free = lacks-dotted (address / 16777216 % 256) (address / 65536 % 256) (address / 256 % 256) (address % 256) (omega arith) (omega arith) (omega arith)
    (omega arith) in
    meaning_as_four (four_text address) (lacks_colon (four_text address) free) ∙ ap (mapped Four) (four_meaning-four_text address small)

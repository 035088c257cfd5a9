-- What the steps of reading a port item come to.
use Rattle.std.proofs.Common.{◌≡◌, true, false, arith, codes, bytes_eq, ℕ, ◌+◌, ◌*◌, Bool, ◌&&◌, leb, List, Some, None, refl}
use Rattle.std.proofs.lemmas.Bool.{le-leb}
use Rattle.sel_text.specs.declared.port.PortItem.TheVariants.{Number, TypeCode}
use Rattle.sel_text.proofs.Faults.{mapped}
use Rattle.sel_text.specs.inner.Reading.{both}
use Rattle.sel_text.specs.Number.{number_in, number_meaning}
use Rattle.sel_text.specs.Parts.{cut}
use Rattle.sel_text.specs.Port.{is_type_code, type_code_in, type_code_meaning, type_code_value}
use Rattle.sel_text.specs.inner.Reading.{in_order, value_meaning, span_meaning}
use Rattle.sel_text.proofs.Faults.{bounded-same, both-bounded, mapped-bounded, bounded-option_map, in_order-bounded}

pub type_code_by_bytes : (type code : List ℕ)
    → type_code_meaning type code ≡ mapped (λ (value : ℕ × ℕ). 256 * value.0 + value.1) (both (number_meaning 255 type) (number_meaning 255 code))
unfolding type_code_meaning
type_code_by_bytes type code = rw (both-bounded, mapped-bounded)

pub span_of_numbers : (first last : List ℕ) → cut 47 first ≡ None → cut 47 last ≡ None
    → span_meaning first last ≡ mapped (λ (ends : ℕ × ℕ). Number ends.0 ends.1) (in_order (both (number_meaning 65535 first) (number_meaning 65535 last)))
span_of_numbers first last one two = rw (one, two, bounded-option_map, both-bounded, in_order-bounded, mapped-bounded)

pub span_of_codes : (first last type code last_type last_code : List ℕ) → cut 47 first ≡ Some (type, code) → cut 47 last ≡ Some (last_type, last_code)
    → span_meaning first last ≡ mapped (λ (ends : ℕ
    × ℕ). TypeCode ends.0 ends.1) (in_order (both (type_code_meaning type code) (type_code_meaning last_type last_code)))
unfolding type_code_meaning
span_of_codes first last type code last_type last_code one two = rw (one, two, bounded-option_map, both-bounded, in_order-bounded, mapped-bounded)

-- a value is in order with itself
in_order_itself : (fit : Bool) (n : ℕ) → ((fit && fit) && leb n n) ≡ fit
in_order_itself true n = le-leb n n (omega arith)
in_order_itself false n = refl

pub value_of_number : (text : List ℕ) → cut 47 text ≡ None → value_meaning text ≡ mapped (λ (first : ℕ). Number first first) (number_meaning 65535 text)
value_of_number text whole =
    rw (whole, bounded-option_map, mapped-bounded) (bounded-same _ _ _ (λ n. in_order_itself (leb n 65535) n) (number_in text))

pub value_of_any : (text type code : List ℕ) → cut 47 text ≡ Some (type, code) → bytes_eq code (codes "any") ≡ true
    → value_meaning text ≡ mapped (λ (first : ℕ). TypeCode (256 * first) (256 * first + 255)) (number_meaning 255 type)
value_of_any text type code one word = rw (one, word, bounded-option_map, mapped-bounded)

pub value_of_code : (text type code : List ℕ) → cut 47 text ≡ Some (type, code) → bytes_eq code (codes "any") ≡ false
    → value_meaning text ≡ mapped (λ (first : ℕ). TypeCode first first) (type_code_meaning type code)
unfolding type_code_meaning
value_of_code text type code one other =
    rw (one, other, bounded-option_map, mapped-bounded) (bounded-same _ _ _ (λ v. in_order_itself (is_type_code v) (type_code_value v)) (type_code_in (
      type,
      code,
    )))

pub ruleset span_lemmas = (span_of_numbers, span_of_codes)

pub ruleset value_lemmas = (value_of_number, value_of_any, value_of_code)

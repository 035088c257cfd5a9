-- A policy that was read has at most as many lines as one may have.
use Rattle.std.proofs.Common.{◌≡◌, ℕ, ◌+◌, ◌≤◌, Bool, true, false, cond, not, nat_le, List, [], ◌∷◌, ◌++◌, length, Result, Ok, Err, refl, subst, arith}
use Rattle.std.specs.List.{list_any}
use Rattle.std.specs.Str.{bytes_eq}
use Rattle.std.proofs.lemmas.Bool.Decides.{nat_tests}
use Rattle.std.proofs.lemmas.List.{length-append}
use Rattle.toml.specs.Data.{Data, Members}
use Rattle.toml.specs.Parse.{parse_document}
use Rattle.spd_line.specs.declared.line.LineParts.{LineParts}
use Rattle.spd_line.specs.Policy.{most_lines, names}
use Rattle.spd_file.specs.declared.fault.PolicyFault.{PolicyFault}
use Rattle.spd_file.specs.declared.key.TopKey.{TopKey}
use Rattle.spd_file.specs.declared.why.Why.{Why}
use Rattle.spd_file.specs.Line.{line_of_value, only_keys}
use Rattle.spd_file.specs.Parsed.{parsed}
use Rattle.spd_file.specs.Policy.{added, array_of, at_top, format_of, is_top_key, lines_behind, policy_lines, policy_meaning, policy_of, top_value}
use Rattle.spd_file.specs.Steps.{◌>>=◌, ◌>>◌}
use Rattle.spd_file.specs.Values.{optional, required}

-- What came after a step that wasn't refused.

after : {A B : Type 0} (step : Result A PolicyFault) (next : A → Result B PolicyFault) (value : B) → (step >>= next) ≡ Ok value
    → (first : A) × (step ≡ Ok first) × (next first ≡ Ok value)
after (Ok first) next value is = (first, refl, is)
after (Err fault) next value is = absurd cc

behind : {A B : Type 0} (step : Result A PolicyFault) (next : Result B PolicyFault) (value : B) → (step >> next) ≡ Ok value → next ≡ Ok value
behind (Ok first) next value is = is
behind (Err fault) next value is = absurd cc

-- There is one line more for each value.

added-length : (lines more : List LineParts) (line : LineParts) → added lines line ≡ Ok more → length more ≡ length lines + 1
added-length lines more line is = go (list_any (bytes_eq line.name) (names lines)) is
  where
    go : (taken : Bool)
        → ◌≡◌ {A = Result (List LineParts) PolicyFault} (cond taken (Err (PolicyFault.DuplicateName (length lines + 1))) (Ok (lines ++ line ∷ []))) (Ok more)
        → length more ≡ length lines + 1
    go true same = absurd cc
    go false same =
        let more_is : lines ++ line ∷ [] ≡ more = cc in
        subst (λ (all : List LineParts). length all ≡ length lines + 1) more_is (length-append lines (line ∷ []))

lines_behind-length : (values : List Data) (lines all : List LineParts) → lines_behind lines values ≡ Ok all
    → length all ≡ length lines + length values
lines_behind-length [] lines all is =
    let same : lines ≡ all = cc in
    subst (λ (some : List LineParts). length some ≡ length lines + 0) same (omega arith)
lines_behind-length (value ∷ values) lines all is =
    let read = after (line_of_value (length lines + 1) value) (λ (line : LineParts). added lines line >>= (λ (more : List LineParts). lines_behind more values))
    all is in
    let grown = after (added lines read.0) (λ (more : List LineParts). lines_behind more values) all read.2 in
    omega (arith, added-length lines grown.0 read.0 grown.1, lines_behind-length values grown.0 all grown.2)

policy_lines-few : (values : List Data) (lines : List LineParts) → policy_lines values ≡ Ok lines → length lines ≤ most_lines
policy_lines-few values lines is = go (nat_le (length values) most_lines) refl is
  where
    go : (few : Bool) → nat_le (length values) most_lines ≡ few → cond few (lines_behind [] values) (Err PolicyFault.TooManyLines) ≡ Ok lines
        → length lines ≤ most_lines
    go true few same =
        let count = lines_behind-length values [] lines same in
        grind (arith, nat_tests)
    go false many same = absurd cc

policy_of-few : (members : Members) (lines : List LineParts) → policy_of members ≡ Ok lines → length lines ≤ most_lines
policy_of-few members lines is = go (not (only_keys is_top_key members)) is
  where
    go : (unknown : Bool)
        → cond unknown (Err (PolicyFault.Top TopKey.Unknown Why.NotHere))
        (at_top TopKey.Format (required format_of (top_value TopKey.Format members))
        >> (at_top TopKey.Line (optional [] array_of (top_value TopKey.Line members)) >>= policy_lines)) ≡ Ok lines
        → length lines ≤ most_lines
    go true same = absurd cc
    go false same =
        let left = behind (at_top TopKey.Format (required format_of (top_value TopKey.Format members)))
        (at_top TopKey.Line (optional [] array_of (top_value TopKey.Line members)) >>= policy_lines) lines same in
        let read = after (at_top TopKey.Line (optional [] array_of (top_value TopKey.Line members))) policy_lines lines left in
        policy_lines-few read.0 lines read.2

pub policy_meaning-few : (bytes : List ℕ) (lines : List LineParts) → policy_meaning bytes ≡ Ok lines → length lines ≤ most_lines
policy_meaning-few bytes lines is =
    let members = after (parsed parse_document bytes) policy_of lines is in
    policy_of-few members.0 lines members.2

-- A printed node is read as itself.
use Rattle.std.proofs.Common.{◌≡◌, ℕ, zero, suc, ◌+◌, ◌/◌, ◌%◌, ◌^◌, ◌<◌, ◌≤◌, true, false, cond, ◌==◌, min, map, not, List, [], ◌∷◌, ◌++◌, codes, decimal}
use Rattle.std.proofs.Common.{Some, None, refl, ap, ◌∙◌, arith}
use Rattle.std.specs.Char.{digit_char, is_ascii_digit}
use Rattle.std.specs.List.{AllByRecursion, join_with_byte, onto_first}
use Rattle.std.specs.Option.{option_and_then, option_map}
use Rattle.std.specs.Result.{result_ok}
use Rattle.std.specs.Str.{bytes_eq}
use Rattle.std.proofs.lemmas.Bool.{and_from, and_parts, not-true}
use Rattle.std.proofs.lemmas.Bool.Decides.{nat_tests}
use Rattle.std.proofs.lemmas.List.Folds.{list_all-append}
use Rattle.std.proofs.lemmas.Slice.Eq.{bytes_eq-Decides}
use Rattle.sel_box.specs.declared.any_box.AxisName.{AxisName}
use Rattle.sel_box.specs.declared.any_box.AxisName.TheVariants.{Local, Remote, Protocol, LocalField, RemoteField}
use Rattle.sel_text.specs.declared.family.Family.{Family}
use Rattle.sel_text.specs.declared.family.Family.TheVariants.{Four, Six}
use Rattle.sel_text.specs.Family.{address_from, last_address}
use Rattle.sel_text.specs.Lines.{lines_of}
use Rattle.sel_text.specs.Parts.{cut}
use Rattle.sel_text.specs.Text.{address_text, four_text, group_text, lowest_groups, six_text}
use Rattle.sel_text.proofs.Cuts.{cut_at, lacks, tests_lack}
use Rattle.sel_text.proofs.Decimals.{digits-decimal, number_meaning-decimal}
use Rattle.sel_text.proofs.FourBack.{address_meaning-four}
use Rattle.sel_text.proofs.SixBack.{address_meaning-six}
use Rattle.spd_line.specs.Policy.{most_lines}
use Rattle.cert_text.specs.declared.node.Node.{Node}
use Rattle.cert_text.specs.Grammar.{address_of, axis_of, ended, leaf_at, node_behind, node_by, node_in, node_of, place_of, positive}
use Rattle.cert_text.specs.Grammar.{printed_value, split_on, value_of}
use Rattle.cert_text.specs.NodeText.{IsPlace, IsWritable, address_words, axis_text, last_written, node_text, node_words, value_text}

-- Which bytes don't stand in what is printed: neither a space nor an LF.

lacks-append : (byte : ℕ) (first second : List ℕ) → lacks byte first ≡ true → lacks byte second ≡ true → lacks byte (first ++ second) ≡ true
lacks-append byte first second one two =
    list_all-append (λ here. not (here == byte)) first second ∙ and_from (lacks byte first) (lacks byte second) one two

lacks-decimal : (byte n : ℕ) → is_ascii_digit byte ≡ false → n < 2 ^ 128 → lacks byte (decimal n) ≡ true
lacks-decimal byte n other small = tests_lack is_ascii_digit byte (decimal n) other (digits-decimal n (omega arith))

lacks-dotted : (a b c d : ℕ) → a < 256 → b < 256 → c < 256 → d < 256
    → lacks 10 (decimal a ++ 46 ∷ (decimal b ++ 46 ∷ (decimal c ++ 46 ∷ decimal d))) ≡ true
lacks-dotted a b c d one two three four =
    lacks-append 10 (decimal a) (46 ∷ (decimal b ++ 46 ∷ (decimal c ++ 46 ∷ decimal d))) (lacks-decimal 10 a refl (omega arith))
    (lacks-append 10 (decimal b) (46 ∷ (decimal c ++ 46 ∷ decimal d)) (lacks-decimal 10 b refl (omega arith))
    (lacks-append 10 (decimal c) (46 ∷ decimal d) (lacks-decimal 10 c refl (omega arith)) (lacks-decimal 10 d refl (omega arith))))

lacks-digit_char : (digit : ℕ) → digit < 16 → not (digit_char digit == 10) ≡ true
lacks-digit_char digit small = grind (arith, nat_tests)

lacks-group : (group : ℕ) → group < 65536 → lacks 10 (group_text group) ≡ true
lacks-group group small =
    and_from _ _ (lacks-digit_char (group / 4096) (omega arith))
    (and_from _ _ (lacks-digit_char (group / 256 % 16) (omega arith))
    (and_from _ _ (lacks-digit_char (group / 16 % 16) (omega arith))
    (and_from _ _ (lacks-digit_char (group % 16) (omega arith)) refl)))

lacks-groups : (groups : List ℕ) → AllByRecursion (λ group. group < 65536) groups → lacks 10 (join_with_byte 58 (map group_text groups)) ≡ true
lacks-groups [] small = refl
lacks-groups (group ∷ []) small = lacks-group group small.0
lacks-groups (group ∷ next ∷ groups) small =
    lacks-append 10 (group_text group) (58 ∷ join_with_byte 58 (map group_text (next ∷ groups))) (lacks-group group small.0)
    (lacks-groups (next ∷ groups) small.1)

groups_small : (n address : ℕ) → AllByRecursion (λ group. group < 65536) (lowest_groups n address)
groups_small zero address = tt
groups_small (suc n) address = (omega arith, groups_small n address)

lacks-address : (family : Family) (value : ℕ) → value ≤ last_address family → lacks 10 (address_text (address_from family value)) ≡ true
lacks-address Four value within =
    lacks-dotted (value / 16777216 % 256) (value / 65536 % 256) (value / 256 % 256) (value % 256) (omega arith) (omega arith) (omega arith) (omega arith)
lacks-address Six value within = lacks-groups (lowest_groups 8 value) (groups_small 8 value)

-- An address is written as itself up to the last.
written_as_itself : (family : Family) (value : ℕ) → value ≤ last_address family → address_words family value ≡ address_text (address_from family value)
written_as_itself family value within =
    let same : min value (last_address family) ≡ value = omega arith in
    ap (λ (number : ℕ). address_text (address_from family number)) same

lacks-value : (family : Family) (axis : AxisName) (value : ℕ) → value ≤ last_written family axis → lacks 10 (value_text family axis value) ≡ true
lacks-value family Local value within = ap (lacks 10) (written_as_itself family value within) ∙ lacks-address family value within
lacks-value family Remote value within = ap (lacks 10) (written_as_itself family value within) ∙ lacks-address family value within
lacks-value family Protocol value within = lacks-decimal 10 value refl (omega arith)
lacks-value family LocalField value within = lacks-decimal 10 value refl (omega arith)
lacks-value family RemoteField value within = lacks-decimal 10 value refl (omega arith)

lacks-axis : (axis : AxisName) → (lacks 10 (axis_text axis) ≡ true) × (lacks 32 (axis_text axis) ≡ true)
lacks-axis Local = (refl, refl)
lacks-axis Remote = (refl, refl)
lacks-axis Protocol = (refl, refl)
lacks-axis LocalField = (refl, refl)
lacks-axis RemoteField = (refl, refl)

-- The words are read one by one.

axis_of-text : (axis : AxisName) → axis_of (axis_text axis) ≡ Some axis
axis_of-text Local = refl
axis_of-text Remote = refl
axis_of-text Protocol = refl
axis_of-text LocalField = refl
axis_of-text RemoteField = refl

same_text : (text : List ℕ) → bytes_eq text text ≡ true
same_text text = (bytes_eq-Decides text text).1 refl

address_of-text : (family : Family) (value : ℕ) → value ≤ last_address family → address_of family (address_text (address_from family value)) ≡ Some value
address_of-text Four value within =
    ap (option_and_then (printed_value Four (four_text value))) (ap result_ok (address_meaning-four value (omega arith)))
    ∙ ap (λ here. cond here (Some value) None) (same_text (four_text value))
address_of-text Six value within =
    ap (option_and_then (printed_value Six (six_text value))) (ap result_ok (address_meaning-six value (omega arith)))
    ∙ ap (λ here. cond here (Some value) None) (same_text (six_text value))

address_of-words : (family : Family) (value : ℕ) → value ≤ last_address family → address_of family (address_words family value) ≡ Some value
address_of-words family value within = ap (address_of family) (written_as_itself family value within) ∙ address_of-text family value within

value_of-text : (family : Family) (axis : AxisName) (value : ℕ) → value ≤ last_written family axis
    → value_of family axis (value_text family axis value) ≡ Some value
value_of-text family Local value within = address_of-words family value within
value_of-text family Remote value within = address_of-words family value within
value_of-text family Protocol value within = ap result_ok (number_meaning-decimal 255 value (omega arith) within)
value_of-text family LocalField value within = ap result_ok (number_meaning-decimal 65535 value (omega arith) within)
value_of-text family RemoteField value within = ap result_ok (number_meaning-decimal 65535 value (omega arith) within)

place_of-text : (place : ℕ) → IsPlace place → place_of (decimal place) ≡ Some place
place_of-text place is =
    let some : (place == 0) ≡ false = grind (arith, nat_tests, is.0) in
    ap (option_and_then positive) (ap result_ok (number_meaning-decimal (most_lines + 1) place (omega arith) is.1))
    ∙ ap (λ none. cond none None (Some place)) some

-- A line is read by its kind and the two words behind it.

read_kind : (family : Family) (kind first second : List ℕ) (node : Node) → bytes_eq (kind ++ 32 ∷ (first ++ 32 ∷ second)) (codes "void") ≡ false
    → lacks 32 kind ≡ true → lacks 32 first ≡ true → node_by family kind (first, second) ≡ Some node
    → node_in family (kind ++ 32 ∷ (first ++ 32 ∷ second)) ≡ Some node
read_kind family kind first second node other kind_free first_free is =
    ap (λ void. cond void (Some Node.Void) (option_and_then (node_behind family) (cut 32 (kind ++ 32 ∷ (first ++ 32 ∷ second))))) other
    ∙ ap (option_and_then (node_behind family)) (cut_at 32 kind (first ++ 32 ∷ second) kind_free)
    ∙ ap (option_and_then (node_by family kind)) (cut_at 32 first second first_free)
    ∙ is

read_line : (family : Family) (words : List ℕ) (node : Node) → lacks 10 words ≡ true → node_in family words ≡ Some node
    → node_of family (words ++ codes "\n") ≡ Some node
read_line family words node free is =
    ap (option_and_then (node_in family)) (ap (option_and_then ended) (cut_at 10 words [] free)) ∙ is

-- The words of a node have no LF.
node_words-lack : (family : Family) (node : Node) → IsWritable family node → lacks 10 (node_words family node) ≡ true
node_words-lack family (Node.Split axis value) within =
    lacks-append 10 (axis_text axis) (32 ∷ value_text family axis value) (lacks-axis axis).0 (lacks-value family axis value within)
node_words-lack family (Node.Leaf a b) within =
    let a_small : a < 2 ^ 128 = omega (arith, within.0.1) in
    let b_small : b < 2 ^ 128 = omega (arith, within.1.1) in
    lacks-append 10 (decimal a) (32 ∷ decimal b) (lacks-decimal 10 a refl a_small) (lacks-decimal 10 b refl b_small)
node_words-lack family Node.Void within = refl

-- So its line is the first of a text that begins with it.

lines_of-line : (words rest : List ℕ) → lacks 10 words ≡ true → lines_of ((words ++ codes "\n") ++ rest) ≡ (words ++ codes "\n") ∷ lines_of rest
lines_of-line [] rest free = refl
lines_of-line (byte ∷ words) rest free =
    let both = and_parts (not (byte == 10)) (lacks 10 words) free in
    ap (λ feed. cond feed ((byte ∷ []) ∷ lines_of ((words ++ codes "\n") ++ rest)) (onto_first byte (lines_of ((words ++ codes "\n") ++ rest))))
    (not-true (byte == 10) both.0)
    ∙ ap (onto_first byte) (lines_of-line words rest both.1)

pub lines_of-node : (family : Family) (node : Node) (rest : List ℕ) → IsWritable family node
    → lines_of (node_text family node ++ rest) ≡ node_text family node ∷ lines_of rest
lines_of-node family node rest within = lines_of-line (node_words family node) rest (node_words-lack family node within)

pub node_of-text : (family : Family) (node : Node) → IsWritable family node → node_of family (node_text family node) ≡ Some node
node_of-text family (Node.Split axis value) within =
    let read = ap (option_and_then (split_on family (value_text family axis value))) (axis_of-text axis)
    ∙ ap (option_map (λ value. Node.Split axis value)) (value_of-text family axis value within) in
    read_line family (node_words family (Node.Split axis value)) (Node.Split axis value)
    (node_words-lack family (Node.Split axis value) within)
    (read_kind family (codes "split") (axis_text axis) (value_text family axis value) (Node.Split axis value) refl refl (lacks-axis axis).1 read)
node_of-text family (Node.Leaf a b) within =
    let a_small : a < 2 ^ 128 = omega (arith, within.0.1) in
    let read = ap (option_and_then (leaf_at (decimal b))) (place_of-text a within.0)
    ∙ ap (option_map (λ b. Node.Leaf a b)) (place_of-text b within.1) in
    read_line family (node_words family (Node.Leaf a b)) (Node.Leaf a b)
    (node_words-lack family (Node.Leaf a b) within)
    (read_kind family (codes "leaf") (decimal a) (decimal b) (Node.Leaf a b) refl refl (lacks-decimal 32 a refl a_small) read)
node_of-text family Node.Void within = refl

-- What a table of classes says of each protocol.
use Rattle.std.proofs.Common.{◌≡◌, ℕ, suc, zero, ◌+◌, ◌-◌, ◌<◌, ◌≤◌, Bool, true, false, ◌&&◌, ◌||◌, nat_eq, nat_le, if◌then◌else◌, List, [], ◌∷◌, length}
use Rattle.std.proofs.Common.{get_or, drop, sym, refl, ap, ap₂, ◌∙◌, subst, arith, add-one, drop-cons, drop_of_length-le}
use Rattle.std.proofs.lemmas.Bool.{and_parts}
use Rattle.std.proofs.lemmas.Bool.Decides.{nat_tests}
use Rattle.std.specs.List.{list_all, range_with_len}
use Rattle.sel_region.specs.Region.{hits, one_if}
use Rattle.sel_box.specs.declared.class.ClassRow.{ClassRow}
use Rattle.sel_box.specs.declared.class.Shape.{Shape}
use Rattle.sel_box.specs.declared.class.Shape.TheVariants.{NoField, OneField, TwoPorts}
use Rattle.sel_box.specs.Class.{fields_fit, greatest_field, has_one_field, has_two_ports, opaque_field, opaque_protocol}
use Rattle.sel_box.specs.Classes.{AreClasses, are_classes, class_rows, row_has, row_is_right, row_tells, rows_follow, same_shape, shape_allows, shape_of}
use Rattle.sel_box.specs.Classes.{top_of}

-- a test of each number from one on, so many of them
all_in_range : (test : ℕ → Bool) (a n k : ℕ) → list_all test (range_with_len a n) ≡ true → a ≤ k → k < a + n → test k ≡ true
all_in_range test a zero k all low high = absurd (omega arith)
all_in_range test a (suc n) k all low high =
    let parts = and_parts (test a) (list_all test (range_with_len (a + 1) n)) all in
    go parts.0 (all_in_range test (a + 1) n k parts.1) (nat_eq a k) refl
  where
    go : test a ≡ true → (a + 1 ≤ k → k < a + 1 + n → test k ≡ true) → (same : Bool) → nat_eq a k ≡ same → test k ≡ true
    go here later true e = let same : a ≡ k = grind (arith, nat_tests) in subst (λ j. test j ≡ true) same here
    go here later false e = later (grind (arith, nat_tests)) (omega arith)

shape_from_same : (s t : Shape) → same_shape s t ≡ true → s ≡ t
shape_from_same NoField NoField e = refl
shape_from_same NoField OneField e = cc
shape_from_same NoField TwoPorts e = cc
shape_from_same OneField NoField e = cc
shape_from_same OneField OneField e = refl
shape_from_same OneField TwoPorts e = cc
shape_from_same TwoPorts NoField e = cc
shape_from_same TwoPorts OneField e = cc
shape_from_same TwoPorts TwoPorts e = refl

-- the fields of a protocol by its shape
fields_by_shape : (protocol source destination : ℕ) →
    shape_allows (shape_of protocol) (top_of protocol) source destination ≡ fields_fit protocol source destination
fields_by_shape protocol source destination = go (has_two_ports protocol) (has_one_field protocol)
  where
    go : (two one : Bool) →
        shape_allows (if two then TwoPorts else if one then OneField else NoField)
        (if two then 65535 else if one then greatest_field protocol else 0) source destination
        ≡ (if two
        then (nat_le source 65535 && nat_le destination 65535) || (nat_eq source opaque_field && nat_eq destination opaque_field)
        else if one
        then (nat_le source (greatest_field protocol) || nat_eq source opaque_field) && nat_eq destination opaque_field
        else nat_eq source opaque_field && nat_eq destination opaque_field)
    go true one = refl
    go false true = refl
    go false false = refl

row_tells-at : (row : ClassRow) (protocol : ℕ) → row_is_right row ≡ true → row_has row protocol ≡ true → row_tells row protocol ≡ true
unfolding row_is_right
row_tells-at row protocol right has =
    let ends = and_parts (nat_le row.first protocol) (nat_le protocol row.last) has in
    all_in_range (row_tells row) row.first (row.last + 1 - row.first) protocol right (grind (arith, nat_tests)) (grind (arith, nat_tests))

pub row_shape : (row : ClassRow) (protocol : ℕ) → row_is_right row ≡ true → row_has row protocol ≡ true → row.shape ≡ shape_of protocol
row_shape row protocol right has =
    shape_from_same row.shape (shape_of protocol)
    (and_parts (same_shape row.shape (shape_of protocol)) (nat_eq row.top (top_of protocol)) (row_tells-at row protocol right has)).0

pub row_top : (row : ClassRow) (protocol : ℕ) → row_is_right row ≡ true → row_has row protocol ≡ true → row.top ≡ top_of protocol
row_top row protocol right has =
    let same = (and_parts (same_shape row.shape (shape_of protocol)) (nat_eq row.top (top_of protocol)) (row_tells-at row protocol right has)).1 in
    nat_from_same row.top (top_of protocol) same
  where
    nat_from_same : (m n : ℕ) → nat_eq m n ≡ true → m ≡ n
    nat_from_same m n e = grind (arith, nat_tests)

pub row_fields : (row : ClassRow) (protocol source destination : ℕ) → row_is_right row ≡ true → row_has row protocol ≡ true →
    shape_allows row.shape row.top source destination ≡ fields_fit protocol source destination
row_fields row protocol source destination right has =
    ap₂ (λ shape top. shape_allows shape top source destination) (row_shape row protocol right has) (row_top row protocol right has)
    ∙ fields_by_shape protocol source destination

-- the first of rows that follow one another, and those after it
pub rows_follow-parts : (next : ℕ) (row : ClassRow) (rows : List ClassRow) → rows_follow next (row ∷ rows) ≡ true →
    (row.first ≡ next) × (row.first ≤ row.last) × (rows_follow (row.last + 1) rows ≡ true)
unfolding rows_follow
rows_follow-parts next row rows follow =
    let both_ends = and_parts (nat_eq row.first next && nat_le row.first row.last) (rows_follow (row.last + 1) rows) follow in
    let ends = and_parts (nat_eq row.first next) (nat_le row.first row.last) both_ends.0 in
    (grind (arith, nat_tests), grind (arith, nat_tests), both_ends.1)

pub rows_follow-end : (next : ℕ) → rows_follow next [] ≡ true → next ≡ 257
unfolding rows_follow
rows_follow-end next follow = grind (arith, nat_tests)

pub rows_follow-le : (next : ℕ) (rows : List ClassRow) → rows_follow next rows ≡ true → next ≤ 257
rows_follow-le next [] follow = let e = rows_follow-end next follow in omega (arith, e)
rows_follow-le next (row ∷ rows) follow =
    let parts = rows_follow-parts next row rows follow in
    let later = rows_follow-le (row.last + 1) rows parts.2 in
    omega (arith, parts, later)

-- each protocol from the first on is in one of the rows
rows_part : (next : ℕ) (rows : List ClassRow) (protocol : ℕ) → rows_follow next rows ≡ true →
    hits row_has rows protocol ≡ one_if (nat_le next protocol && nat_le protocol 256)
rows_part next [] protocol follow = let e = rows_follow-end next follow in grind (arith, nat_tests, e)
rows_part next (row ∷ rows) protocol follow =
    let parts = rows_follow-parts next row rows follow in
    let later = rows_follow-le (row.last + 1) rows parts.2 in
    ap (λ n. one_if (row_has row protocol) + n) (rows_part (row.last + 1) rows protocol parts.2)
    ∙ split row.first row.last next protocol parts.0 parts.1 later
  where
    split : (first last next protocol : ℕ) → first ≡ next → first ≤ last → last + 1 ≤ 257 →
        one_if (nat_le first protocol && nat_le protocol last) + one_if (nat_le (last + 1) protocol && nat_le protocol 256)
        ≡ one_if (nat_le next protocol && nat_le protocol 256)
    split first last next protocol e low high = grind (arith, nat_tests)

pub all_at : {X : Type 0} (test : X → Bool) (xs : List X) (k : ℕ) (d : X) → list_all test xs ≡ true → k < length xs → test (get_or xs k d) ≡ true
all_at test [] k d all below = absurd (omega arith)
all_at test (x ∷ xs) zero d all below = (and_parts (test x) (list_all test xs) all).0
all_at test (x ∷ xs) (suc k) d all below = all_at test xs k d (and_parts (test x) (list_all test xs) all).1 (omega arith)

pub classes_follow : (rows : List ClassRow) → are_classes rows ≡ true → rows_follow 0 rows ≡ true
unfolding are_classes
classes_follow rows are = (and_parts (rows_follow 0 rows) (list_all row_is_right rows) are).0

pub classes_right : (rows : List ClassRow) → are_classes rows ≡ true → list_all row_is_right rows ≡ true
unfolding are_classes
classes_right rows are = (and_parts (rows_follow 0 rows) (list_all row_is_right rows) are).1

-- a table whose rows pass the test is the table of classes
pub AreClasses-from_test : (rows : List ClassRow) → are_classes rows ≡ true → AreClasses rows
AreClasses-from_test rows are = record {
  parted = λ protocol. rows_part 0 rows protocol (classes_follow rows are) ∙ from_zero protocol;
  shown = λ k d below.
      let right = all_at row_is_right rows k d (classes_right rows are) below in
      record {
        shape = λ protocol has. row_shape (get_or rows k d) protocol right has;
        top = λ protocol has. row_top (get_or rows k d) protocol right has;
        fields = λ protocol source destination has. row_fields (get_or rows k d) protocol source destination right has;
      };
}
  where
    from_zero : (protocol : ℕ) → one_if (nat_le 0 protocol && nat_le protocol 256) ≡ one_if (nat_le protocol opaque_protocol)
    from_zero protocol = grind (arith, nat_tests)

-- the 17 rows pass the test
pub class_rows-right : are_classes class_rows ≡ true
unfolding are_classes class_rows row_is_right rows_follow
class_rows-right = refl

-- a protocol that isn't before the rows that are left: the next of them doesn't begin after it
pub rows_follow-at : (rows : List ClassRow) (i : ℕ) (d : ClassRow) (next protocol : ℕ) → i < length rows → next ≤ protocol →
    rows_follow next (drop i rows) ≡ true →
    ((get_or rows i d).first ≤ protocol) × (rows_follow ((get_or rows i d).last + 1) (drop (i + 1) rows) ≡ true)
rows_follow-at rows i d next protocol below low follow =
    let parts = rows_follow-parts next (get_or rows i d) (drop (suc i) rows) (ap (rows_follow next) (sym (drop-cons rows i d below)) ∙ follow) in
    (omega (arith, parts), ap (λ n. rows_follow ((get_or rows i d).last + 1) (drop n rows)) (add-one i) ∙ parts.2)

-- past the last row no protocol is left
pub rows_follow-none_left : (rows : List ClassRow) (i next protocol : ℕ) → length rows ≤ i → next ≤ protocol → protocol ≤ 256 →
    rows_follow next (drop i rows) ≡ true → ⊥
rows_follow-none_left rows i next protocol past low high follow =
    let e = rows_follow-end next (ap (rows_follow next) (sym (drop_of_length-le rows past)) ∙ follow) in
    omega (arith, e)

pub classes_right-at : (rows : List ClassRow) (i : ℕ) (d : ClassRow) → are_classes rows ≡ true → i < length rows →
    row_is_right (get_or rows i d) ≡ true
classes_right-at rows i d are below = all_at row_is_right rows i d (classes_right rows are) below

pub row_has-from_ends : (row : ClassRow) (protocol : ℕ) → row.first ≤ protocol → protocol ≤ row.last → row_has row protocol ≡ true
row_has-from_ends row protocol low high = grind (arith, nat_tests)

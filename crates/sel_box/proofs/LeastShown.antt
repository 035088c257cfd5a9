-- The least that packets show in ranges of protocols and fields: row by row of the table of classes.
use Rattle.std.proofs.Common.{◌≡◌, ℕ, suc, zero, ◌+◌, ◌<◌, ◌≤◌, max, Bool, true, false, ◌&&◌, ◌||◌, nat_eq, nat_le, if◌then◌else◌, List, [], ◌∷◌, Option, Some}
use Rattle.std.proofs.Common.{None, is_some, IfSome, IfNone, option_map, sym, refl, ap, ◌∙◌, subst, arith}
use Rattle.std.proofs.lemmas.Bool.{and_from, and_parts, both_ways}
use Rattle.std.proofs.lemmas.Bool.Decides.{nat_tests}
use Rattle.std.specs.List.{list_all, list_any, range_with_len}
use Rattle.std.specs.Option.{option_or}
use Rattle.sel_region.specs.Interval.{Range, high_of, range_has}
use Rattle.sel_box.specs.declared.class.ClassRow.{ClassRow}
use Rattle.sel_text.specs.declared.family.Family.{Family}
use Rattle.sel_text.specs.declared.family.Family.TheVariants.{Four, Six}
use Rattle.sel_box.specs.declared.shown.PacketRanges.{PacketRanges}
use Rattle.sel_box.specs.declared.shown.Shown.{Shown}
use Rattle.sel_box.specs.Class.{fields_fit}
use Rattle.sel_box.specs.Classes.{are_classes, row_has, row_is_right, rows_follow, shape_allows}
use Rattle.sel_box.specs.LeastPacket.{at_most_then}
use Rattle.sel_box.specs.Packet.{protocol_fits}
use Rattle.sel_box.specs.inner.Shown.{HasNoneShown, IsLeastShown, is_shown, least_fields, row_shows, rows_show, shown_at_most, shows_in}
use Rattle.sel_box.specs.SomePoint.{all_protocols, shows, shows_fields, some_shows}
use Rattle.sel_box.proofs.ClassRows.{classes_follow, classes_right, row_fields, row_has-from_ends, rows_follow-end, rows_follow-parts}
use Rattle.sel_box.proofs.FieldsShown.{least_fields-inside, least_fields-least, least_fields-none, shows-from, shows-parts, shows_fields-from}
use Rattle.sel_box.proofs.FieldsShown.{shows_fields-some}

-- what is shown, part by part
pub record ShownParts (r : PacketRanges) (s : Shown) : Type 0 where
  pub protocol : range_has r.protocols s.protocol ≡ true
  pub family : protocol_fits r.family s.protocol ≡ true
  pub fields : shows s.protocol r.source_fields r.destination_fields s.source_field s.destination_field ≡ true

pub is_shown-parts : (r : PacketRanges) (s : Shown) → is_shown r s ≡ true → ShownParts r s
is_shown-parts r s shown =
    let has_protocol = range_has r.protocols s.protocol in
    let family_fits = protocol_fits r.family s.protocol in
    let has_source = range_has r.source_fields s.source_field in
    let has_destination = range_has r.destination_fields s.destination_field in
    let fields_are_fit = fields_fit s.protocol s.source_field s.destination_field in
    let fit = and_parts (has_protocol && family_fits && has_source && has_destination) fields_are_fit shown in
    let destinations = and_parts (has_protocol && family_fits && has_source) has_destination fit.0 in
    let sources = and_parts (has_protocol && family_fits) has_source destinations.0 in
    let protocols = and_parts has_protocol family_fits sources.0 in
    record {
      protocol = protocols.0;
      family = protocols.1;
      fields = shows-from s.protocol r.source_fields r.destination_fields s.source_field s.destination_field sources.1 destinations.1 fit.1;
    }

pub is_shown-from : (r : PacketRanges) (s : Shown) → ShownParts r s → is_shown r s ≡ true
is_shown-from r s parts =
    let fields = shows-parts s.protocol r.source_fields r.destination_fields s.source_field s.destination_field parts.fields in
    and_from _ _ (and_from _ _ (and_from _ _ (and_from _ _ parts.protocol parts.family) fields.0) fields.1) fields.2

protocol_le : (family : Family) (protocol : ℕ) → protocol_fits family protocol ≡ true → protocol ≤ 256
protocol_le Four protocol fit = grind (arith, nat_tests)
protocol_le Six protocol fit = grind (arith, nat_tests)

-- a lesser protocol fits too
protocol_fits-lower : (family : Family) (m n : ℕ) → m ≤ n → protocol_fits family n ≡ true → protocol_fits family m ≡ true
protocol_fits-lower Four m n le fit = grind (arith, nat_tests)
protocol_fits-lower Six m n le fit = grind (arith, nat_tests)

pub at_most_then-from : (m n : ℕ) (rest : Bool) → m ≤ n → (m ≡ n → rest ≡ true) → at_most_then m n rest ≡ true
at_most_then-from m n rest le same = go (nat_eq m n) refl
  where
    go : (equal : Bool) → nat_eq m n ≡ equal → at_most_then m n rest ≡ true
    go true e = let rest_true : rest ≡ true = same (grind (arith, nat_tests)) in grind (arith, nat_tests)
    go false e = grind (arith, nat_tests)

-- the protocol that is tried in a row, and whether it can be shown
abbrev tried : PacketRanges → ClassRow → ℕ
tried r row = max row.first r.protocols.low

abbrev can_try : PacketRanges → ClassRow → Bool
can_try r row = nat_le (tried r row) row.last && nat_le (tried r row) (high_of r.protocols) && protocol_fits r.family (tried r row)

abbrev shown_at : ℕ → ℕ × ℕ → Shown
shown_at protocol fields = record { protocol = protocol; source_field = fields.0; destination_field = fields.1 }

abbrev fields_of_row : PacketRanges → ClassRow → Option (ℕ × ℕ)
fields_of_row r row = least_fields (shape_allows row.shape row.top) r.source_fields r.destination_fields

row_shows-some : (r : PacketRanges) (row : ClassRow) (s : Shown) → row_shows r row ≡ Some s →
    (can_try r row ≡ true) × (s.protocol ≡ tried r row) × (fields_of_row r row ≡ Some (s.source_field, s.destination_field))
row_shows-some r row s found = go (can_try r row) (fields_of_row r row) found
  where
    go : (can : Bool) (fields : Option (ℕ × ℕ)) →
        (if can then option_map (shown_at (tried r row)) fields else None) ≡ Some s →
        (can ≡ true) × (s.protocol ≡ tried r row) × (fields ≡ Some (s.source_field, s.destination_field))
    go true None e = absurd (let none : ⊥ = cc in none)
    go true (Some f) e =
        let same : shown_at (tried r row) f ≡ s = cc in
        (refl, sym (ap (λ (t : Shown). t.protocol) same), ap (λ (t : Shown). Some (t.source_field, t.destination_field)) same)
    go false fields e = absurd (let none : ⊥ = cc in none)

row_shows-none : (r : PacketRanges) (row : ClassRow) → row_shows r row ≡ None → can_try r row ≡ true → fields_of_row r row ≡ None
row_shows-none r row found can = go (can_try r row) (fields_of_row r row) found can
  where
    go : (can : Bool) (fields : Option (ℕ × ℕ)) →
        (if can then option_map (shown_at (tried r row)) fields else None) ≡ None →
        can ≡ true → fields ≡ None
    go true None e can = refl
    go true (Some f) e can = absurd (let none : ⊥ = cc in none)
    go false fields e can = absurd (let none : ⊥ = cc in none)

-- a row's fields are those of each of its protocols
fields_of_row-at : (r : PacketRanges) (row : ClassRow) (protocol : ℕ) → row_is_right row ≡ true → row_has row protocol ≡ true →
    fields_of_row r row ≡ least_fields (fields_fit protocol) r.source_fields r.destination_fields
fields_of_row-at r row protocol right has =
    let same : shape_allows row.shape row.top ≡ fields_fit protocol = λ i source destination. row_fields row protocol source destination right has i in
    ap (λ fits. least_fields fits r.source_fields r.destination_fields) same

can_try-parts : (r : PacketRanges) (row : ClassRow) → can_try r row ≡ true →
    (tried r row ≤ row.last) × (tried r row ≤ high_of r.protocols) × (protocol_fits r.family (tried r row) ≡ true)
can_try-parts r row can =
    let all = and_parts (nat_le (tried r row) row.last && nat_le (tried r row) (high_of r.protocols)) (protocol_fits r.family (tried r row)) can in
    let ends = and_parts (nat_le (tried r row) row.last) (nat_le (tried r row) (high_of r.protocols)) all.0 in
    (le_from (tried r row) row.last ends.0, le_from (tried r row) (high_of r.protocols) ends.1, all.1)
  where
    le_from : (m n : ℕ) → nat_le m n ≡ true → m ≤ n
    le_from m n e = grind (arith, nat_tests)

can_try-from : (r : PacketRanges) (row : ClassRow) → tried r row ≤ row.last → tried r row ≤ high_of r.protocols →
    protocol_fits r.family (tried r row) ≡ true → can_try r row ≡ true
can_try-from r row last high fit = and_from _ _ (and_from _ _ (from_le (tried r row) row.last last) (from_le (tried r row) (high_of r.protocols) high)) fit
  where
    from_le : (m n : ℕ) → m ≤ n → nat_le m n ≡ true
    from_le m n e = grind (arith, nat_tests)

range_ends : (range : Range) (n : ℕ) → range_has range n ≡ true → (range.low ≤ n) × (n ≤ high_of range)
range_ends range n has = (grind (arith, nat_tests), grind (arith, nat_tests))

range_has-from : (range : Range) (n : ℕ) → range.low ≤ n → n ≤ high_of range → range_has range n ≡ true
range_has-from range n low high = grind (arith, nat_tests)

-- what a row shows is shown
row_shows-shown : (r : PacketRanges) (row : ClassRow) (s : Shown) → row_is_right row ≡ true → row_shows r row ≡ Some s → is_shown r s ≡ true
row_shows-shown r row s right found =
    let parts = row_shows-some r row s found in
    let can = can_try-parts r row parts.0 in
    let has = row_has-from_ends row (tried r row) (omega arith) can.0 in
    let inside =
    least_fields-inside (tried r row) r.source_fields r.destination_fields (s.source_field, s.destination_field)
    (sym (fields_of_row-at r row (tried r row) right has) ∙ parts.2) in
    is_shown-from r s (record {
      protocol = subst (λ n. range_has r.protocols n ≡ true) (sym parts.1) (range_has-from r.protocols (tried r row) (omega arith) can.1);
      family = subst (λ n. protocol_fits r.family n ≡ true) (sym parts.1) can.2;
      fields = subst (λ n. shows n r.source_fields r.destination_fields s.source_field s.destination_field ≡ true) (sym parts.1) inside;
    })

-- and at most each that is shown of the row's protocols and those above
row_shows-least : (r : PacketRanges) (row : ClassRow) (s t : Shown) → row_is_right row ≡ true → row_shows r row ≡ Some s →
    is_shown r t ≡ true → row.first ≤ t.protocol → shown_at_most s t ≡ true
row_shows-least r row s t right found shown low =
    let parts = row_shows-some r row s found in
    let can = can_try-parts r row parts.0 in
    let has = row_has-from_ends row (tried r row) (omega arith) can.0 in
    let other = is_shown-parts r t shown in
    let ends = range_ends r.protocols t.protocol other.protocol in
    at_most_then-from s.protocol t.protocol (at_most_then s.source_field t.source_field (nat_le s.destination_field t.destination_field))
    (omega (arith, parts.1, low, ends))
    (λ same.
    let tried_there : t.protocol ≡ tried r row = sym same ∙ parts.1 in
    least_fields-least (tried r row) r.source_fields r.destination_fields (s.source_field, s.destination_field) t.source_field t.destination_field
    (sym (fields_of_row-at r row (tried r row) right has) ∙ parts.2)
    (subst (λ n. shows n r.source_fields r.destination_fields t.source_field t.destination_field ≡ true) tried_there other.fields))

-- where a row shows nothing, nothing is shown of its protocols
row_shows-nothing : (r : PacketRanges) (row : ClassRow) (t : Shown) → row_is_right row ≡ true → row_shows r row ≡ None →
    is_shown r t ≡ true → row.first ≤ t.protocol → t.protocol ≤ row.last → ⊥
row_shows-nothing r row t right found shown low high =
    let other = is_shown-parts r t shown in
    let ends = range_ends r.protocols t.protocol other.protocol in
    let le : tried r row ≤ t.protocol = omega (arith, low, ends) in
    let can = can_try-from r row (omega (arith, le, high)) (omega (arith, le, ends)) (protocol_fits-lower r.family (tried r row) t.protocol le other.family) in
    let has = row_has-from_ends row t.protocol low high in
    least_fields-none t.protocol r.source_fields r.destination_fields t.source_field t.destination_field
    (sym (fields_of_row-at r row t.protocol right has) ∙ row_shows-none r row found can) other.fields

-- of rows that follow one another, from this protocol on
rows_show-least : (r : PacketRanges) (next : ℕ) (rows : List ClassRow) (s : Shown) → rows_follow next rows ≡ true → list_all row_is_right rows ≡ true →
    rows_show r rows ≡ Some s →
    (is_shown r s ≡ true) × ((t : Shown) → is_shown r t ≡ true → next ≤ t.protocol → shown_at_most s t ≡ true)
rows_show-least r next [] s follow right found = absurd (let none : ⊥ = cc in none)
rows_show-least r next (row ∷ rows) s follow right found =
    let parts = rows_follow-parts next row rows follow in
    let rights = and_parts (row_is_right row) (list_all row_is_right rows) right in
    go rights.0 parts.0 (row_shows r row) refl found (rows_show-least r (row.last + 1) rows s parts.2 rights.1)
  where
    go : row_is_right row ≡ true → row.first ≡ next → (shown : Option Shown) → row_shows r row ≡ shown → option_or shown (rows_show r rows) ≡ Some s →
        (rows_show r rows ≡ Some s → (is_shown r s ≡ true) × ((t : Shown) → is_shown r t ≡ true → row.last + 1 ≤ t.protocol → shown_at_most s t ≡ true)) →
        (is_shown r s ≡ true) × ((t : Shown) → is_shown r t ≡ true → next ≤ t.protocol → shown_at_most s t ≡ true)
    go right first (Some s') here e later =
        let found_here : row_shows r row ≡ Some s = here ∙ e in
        (row_shows-shown r row s right found_here, λ t shown low. row_shows-least r row s t right found_here shown (omega (arith, first, low)))
    go right first None here e later =
        let rest = later e in
        (rest.0, λ t shown low. rest.1 t shown (above t.protocol (λ high. row_shows-nothing r row t right here shown (omega (arith, first, low)) high)))
      where
        above : (protocol : ℕ) → (protocol ≤ row.last → ⊥) → row.last + 1 ≤ protocol
        above protocol not_in = grind arith

rows_show-nothing : (r : PacketRanges) (next : ℕ) (rows : List ClassRow) → rows_follow next rows ≡ true → list_all row_is_right rows ≡ true →
    rows_show r rows ≡ None → (t : Shown) → is_shown r t ≡ true → next ≤ t.protocol → ⊥
rows_show-nothing r next [] follow right found t shown low =
    let e = rows_follow-end next follow in
    let le = protocol_le r.family t.protocol (is_shown-parts r t shown).family in
    omega (arith, e, le)
rows_show-nothing r next (row ∷ rows) follow right found t shown low =
    let parts = rows_follow-parts next row rows follow in
    let rights = and_parts (row_is_right row) (list_all row_is_right rows) right in
    go rights.0 parts.0 (row_shows r row) refl found (λ rest above. rows_show-nothing r (row.last + 1) rows parts.2 rights.1 rest t shown above)
  where
    go : row_is_right row ≡ true → row.first ≡ next → (seen : Option Shown) → row_shows r row ≡ seen → option_or seen (rows_show r rows) ≡ None →
        (rows_show r rows ≡ None → row.last + 1 ≤ t.protocol → ⊥) → ⊥
    go right first (Some s') here e later = let none : ⊥ = cc in none
    go right first None here e later = split (nat_le t.protocol row.last) refl
      where
        split : (inside : Bool) → nat_le t.protocol row.last ≡ inside → ⊥
        split true h = row_shows-nothing r row t right here shown (omega (arith, first, low)) (grind (arith, nat_tests))
        split false h = later e (grind (arith, nat_tests))

-- the whole table
pub IsLeastShown-from_rows : (r : PacketRanges) (rows : List ClassRow) (s : Shown) → are_classes rows ≡ true → rows_show r rows ≡ Some s → IsLeastShown r s
IsLeastShown-from_rows r rows s are found =
    let parts = rows_show-least r 0 rows s (classes_follow rows are) (classes_right rows are) found in
    record { found = parts.0; least = λ t shown. parts.1 t shown (omega arith) }

pub HasNoneShown-from_rows : (r : PacketRanges) (rows : List ClassRow) → are_classes rows ≡ true → rows_show r rows ≡ None → HasNoneShown r
HasNoneShown-from_rows r rows are found s = go (is_shown r s) refl
  where
    go : (shown : Bool) → is_shown r s ≡ shown → shown ≡ false
    go true e = absurd (rows_show-nothing r 0 rows (classes_follow rows are) (classes_right rows are) found s e (omega arith))
    go false e = refl

pub or_left : (x y : Bool) → x ≡ true → (x || y) ≡ true
or_left true y e = refl
or_left false y e = absurd (let none : ⊥ = cc in none)

pub or_right : (x y : Bool) → y ≡ true → (x || y) ≡ true
or_right true y e = refl
or_right false y e = e

-- a test of each number from one on, so many of them, passes for some where it does for this one
any_in_range : (test : ℕ → Bool) (a n k : ℕ) → test k ≡ true → a ≤ k → k < a + n → list_any test (range_with_len a n) ≡ true
any_in_range test a zero k here low high = absurd (omega arith)
any_in_range test a (suc n) k here low high =
    go (any_in_range test (a + 1) n k here) (nat_eq a k) refl
  where
    go : (a + 1 ≤ k → k < a + 1 + n → list_any test (range_with_len (a + 1) n) ≡ true) → (same : Bool) → nat_eq a k ≡ same →
        (test a || list_any test (range_with_len (a + 1) n)) ≡ true
    go later true e =
        let same : k ≡ a = grind (arith, nat_tests) in
        or_left (test a) (list_any test (range_with_len (a + 1) n)) (subst (λ j. test j ≡ true) same here)
    go later false e =
        or_right (test a) (list_any test (range_with_len (a + 1) n)) (later (grind (arith, nat_tests)) (omega arith))

some_in_list : {X : Type 0} (test : X → Bool) (xs : List X) → list_any test xs ≡ true → (x : X) × (test x ≡ true)
some_in_list test [] some = absurd (let none : ⊥ = cc in none)
some_in_list test (x ∷ xs) some = go (test x) refl some (some_in_list test xs)
  where
    go : (here : Bool) → test x ≡ here → (here || list_any test xs) ≡ true →
        (list_any test xs ≡ true → (y : _) × (test y ≡ true)) → (y : _) × (test y ≡ true)
    go true e some later = (x, e)
    go false e some later = later some

-- a box has something to show exactly where some protocol and fields are shown
pub some_shows-from : (r : PacketRanges) (s : Shown) → is_shown r s ≡ true →
    shows_in r ≡ true
unfolding some_shows
some_shows-from r s shown =
    let parts = is_shown-parts r s shown in
    let le = protocol_le r.family s.protocol parts.family in
    any_in_range (λ protocol. range_has r.protocols protocol && protocol_fits r.family protocol && shows_fields protocol r.source_fields r.destination_fields)
    0 257 s.protocol
    (and_from _ _ (and_from _ _ parts.protocol parts.family)
    (shows_fields-from s.protocol r.source_fields r.destination_fields s.source_field s.destination_field parts.fields))
    (omega arith) (omega (arith, le))

pub some_shows-some : (r : PacketRanges) → shows_in r ≡ true →
    (s : Shown) × (is_shown r s ≡ true)
unfolding some_shows
some_shows-some r some =
    let test : ℕ → Bool = λ protocol.
    range_has r.protocols protocol && protocol_fits r.family protocol && shows_fields protocol r.source_fields r.destination_fields in
    let found = some_in_list test all_protocols some in
    let all = and_parts (range_has r.protocols found.0 && protocol_fits r.family found.0) (shows_fields found.0 r.source_fields r.destination_fields) found.1 in
    let protocols = and_parts (range_has r.protocols found.0) (protocol_fits r.family found.0) all.0 in
    let fields = shows_fields-some found.0 r.source_fields r.destination_fields all.1 in
    let shown : Shown = record { protocol = found.0; source_field = fields.0; destination_field = fields.1 } in
    (shown, is_shown-from r shown (record { protocol = protocols.0; family = protocols.1; fields = fields.2 }))

pub some_shows-none : (r : PacketRanges) → HasNoneShown r → shows_in r ≡ false
some_shows-none r none = go (shows_in r) refl
  where
    go : (some : Bool) → shows_in r ≡ some → some ≡ false
    go true e = let found = some_shows-some r e in absurd (both_ways _ (none found.0) found.1)
    go false e = refl

-- what an `||` answers: its first part where that passes, else its second
pub or_first : (x y first : Bool) → first ≡ x → first ≡ true → first ≡ (x || y)
or_first x y first e passes = passes ∙ sym (or_left x y (sym e ∙ passes))

pub or_second : (x y first second : Bool) → first ≡ x → first ≡ false → second ≡ y → second ≡ (x || y)
or_second x y first second e fails later = later ∙ sym (ap (λ z. z || y) (sym e ∙ fails))

-- what a table answers, where it shows something and where it shows nothing
pub rows_show-found : (r : PacketRanges) (rows : List ClassRow) (shown : Option Shown) → are_classes rows ≡ true → shown ≡ rows_show r rows →
    IfSome shown (IsLeastShown r)
rows_show-found r rows None are e = tt
rows_show-found r rows (Some s) are e = IsLeastShown-from_rows r rows s are (sym e)

pub rows_show-none : (r : PacketRanges) (rows : List ClassRow) (shown : Option Shown) → are_classes rows ≡ true → shown ≡ rows_show r rows →
    IfNone shown (HasNoneShown r)
rows_show-none r rows None are e = HasNoneShown-from_rows r rows are (sym e)
rows_show-none r rows (Some s) are e = tt

pub rows_show-some : (r : PacketRanges) (rows : List ClassRow) (shown : Option Shown) → are_classes rows ≡ true → shown ≡ rows_show r rows →
    is_some shown ≡ shows_in r
rows_show-some r rows None are e = sym (some_shows-none r (HasNoneShown-from_rows r rows are (sym e)))
rows_show-some r rows (Some s) are e = sym (some_shows-from r s (IsLeastShown-from_rows r rows s are (sym e)).found)

-- The texts that spell IPv6 addresses are those that are read as addresses of IPv6.
use Rattle.std.proofs.Common.{◌≡◌, ℕ, suc, ◌+◌, ◌-◌, ◌≤◌, Bool, true, false, not, ◌&&◌, ◌||◌, cond, leb, ltb, ◌==◌, List, [], ◌∷◌, ◌++◌, length, replicate}
use Rattle.std.proofs.Common.{refl, sym, ap, subst, ◌∙◌, Option, Some, None, option_map, append_assoc, append-nil, Result, Ok, Err}
use Rattle.std.specs.List.{AllByRecursion, list_all, join_with_byte}
use Rattle.std.specs.Char.{is_ascii_hexdigit}
use Rattle.std.specs.Str.Parse.{digits_value}
use Rattle.std.proofs.lemmas.Bool.{and_parts, not-true, le-leb, leb-true, eq-eqb, eqb-true, true≢false}
use Rattle.std.proofs.lemmas.List.Splits.{join_with_byte-slice_split}
use Rattle.sel_text.specs.declared.address.Address.TheVariants.{Four, Six}
use Rattle.sel_text.specs.declared.fault.TextFault.{TextFault}
use Rattle.sel_text.specs.inner.Reading.{four_meaning}
use Rattle.sel_text.specs.Fault.{bounded}
use Rattle.sel_text.proofs.Faults.{mapped}
use Rattle.sel_text.specs.Parts.{parts, each, pair}
use Rattle.sel_text.specs.Six.{is_group, group_in, groups_in, side_in, cut_double, all_eight, filled, eight_by, eight_in, address_of_groups}
use Rattle.sel_text.specs.Address.{has_colon, address_meaning}
use Rattle.sel_text.specs.Spelling.{Spells, whole, shortened}
use Rattle.sel_text.proofs.Cuts.{lacks, tests_lack, cut_none, cut_at, parts-cut}
use Rattle.sel_text.proofs.Doubles.{begins, after, after_after, Joins, cut_double-joins, cut_double_lacks, cut_double_one, cut_double_here}
use Rattle.sel_text.proofs.Options.{and_then_some, map_some, pair_some}
use Rattle.sel_text.proofs.Families.{meaning_as_four, meaning_as_six}

-- groups, each one to four hexadecimal digits
abbrev AreGroups : List (List ℕ) → Type 0
AreGroups written = AllByRecursion (λ part. is_group part ≡ true) written

group_in-some : (part : List ℕ) (group : ℕ) → group_in part ≡ Some group → is_group part ≡ true
group_in-some part group is = by_test (is_group part) is
  where
    by_test : (b : Bool) → cond b (Some (digits_value 16 part)) None ≡ Some group → b ≡ true
    by_test true is = refl
    by_test false is = cc

-- what is known of parts that each write a group
record AreRead (written : List (List ℕ)) (groups : List ℕ) : Type 0 where
  are : AreGroups written
  count : length written ≡ length groups

read_more : (part : List ℕ) (written : List (List ℕ)) (group : ℕ) (rest groups : List ℕ) → group_in part ≡ Some group → group ∷ rest ≡ groups
    → AreRead written rest → AreRead (part ∷ written) groups
read_more part written group rest groups one same read =
    record { are = (group_in-some part group one, read.are); count = ap suc read.count ∙ ap length same }

each_read : (written : List (List ℕ)) (groups : List ℕ) → each group_in written ≡ Some groups → AreRead written groups
each_read [] groups is = record { are = tt; count = cc }
each_read (part ∷ written) groups is =
    let first = and_then_some (λ group. option_map (λ rest. group ∷ rest) (each group_in written)) (group_in part) groups is in
    let rest = map_some (λ rest. first.0 ∷ rest) (each group_in written) groups first.2 in
    read_more part written first.0 rest.0 groups first.1 rest.2 (each_read written rest.0 rest.1)

group_lacks : (part : List ℕ) → is_group part ≡ true → lacks 58 part ≡ true
group_lacks part is =
    tests_lack is_ascii_hexdigit 58 part refl (and_parts (ltb 0 (length part) && leb (length part) 4) (list_all is_ascii_hexdigit part) is).1

-- a group begins with no colon
group_begins : (part text : List ℕ) → is_group part ≡ true → begins (part ++ text) ≡ false
group_begins [] text is = absurd cc
group_begins (byte ∷ more) text is =
    not-true (byte == 58) (and_parts (not (byte == 58)) (lacks 58 more) (group_lacks (byte ∷ more) is)).0

joined_begins : (part : List ℕ) (written : List (List ℕ)) (text : List ℕ) → is_group part ≡ true → begins (join_with_byte 58 (part ∷ written) ++ text) ≡ false
joined_begins part [] text is = group_begins part text is
joined_begins part (next ∷ written) text is =
    ap begins (append_assoc part (58 ∷ join_with_byte 58 (next ∷ written)) text) ∙ group_begins part ((58 ∷ join_with_byte 58 (next ∷ written)) ++ text) is

-- groups have no `::` between them
cut_double_joined : (part : List ℕ) (written : List (List ℕ)) (text : List ℕ) → AreGroups (part ∷ written)
    → cut_double (join_with_byte 58 (part ∷ written) ++ text) ≡ option_map (after (join_with_byte 58 (part ∷ written))) (cut_double text)
cut_double_joined part [] text are = cut_double_lacks part text (group_lacks part are.0)
cut_double_joined part (next ∷ written) text are =
    let more = join_with_byte 58 (next ∷ written) in
    rw (
      append_assoc part (58 ∷ more) text,
      cut_double_lacks part (58 ∷ (more ++ text)) (group_lacks part are.0),
      cut_double_one (more ++ text) (joined_begins next written text are.1.0),
      cut_double_joined next written text are.1,
      after_after (58 ∷ []) more (cut_double text),
    )
    (after_after part (58 ∷ more) (cut_double text))

-- groups joined by colons are cut into those groups
parts_joined : (part : List ℕ) (written : List (List ℕ)) → AreGroups (part ∷ written) → parts 58 (join_with_byte 58 (part ∷ written)) ≡ part ∷ written
parts_joined part [] are = rw (parts-cut 58 part, cut_none 58 part (group_lacks part are.0))
parts_joined part (next ∷ written) are =
    rw (parts-cut 58 (part ++ 58 ∷ join_with_byte 58 (next ∷ written)), cut_at 58 part (join_with_byte 58 (next ∷ written)) (group_lacks part are.0))
    (ap (λ more. part ∷ more) (parts_joined next written are.1))

side_in_joined : (written : List (List ℕ)) → AreGroups written → side_in (join_with_byte 58 written) ≡ each group_in written
side_in_joined [] are = refl
side_in_joined ([] ∷ written) are = absurd (true≢false (sym are.0))
side_in_joined ((byte ∷ more) ∷ []) are = ap (each group_in) (parts_joined (byte ∷ more) [] are)
side_in_joined ((byte ∷ more) ∷ next ∷ written) are = ap (each group_in) (parts_joined (byte ∷ more) (next ∷ written) are)

or-true : (b : Bool) → (b || true) ≡ true
or-true true = refl
or-true false = refl

has_colon-after : (prefix back : List ℕ) → has_colon (prefix ++ 58 ∷ back) ≡ true
has_colon-after [] back = refl
has_colon-after (byte ∷ prefix) back = rw (has_colon-after prefix back) (or-true (byte == 58))

eight_in-whole : (written : List (List ℕ)) (groups : List ℕ) → each group_in written ≡ Some groups → length groups ≡ 8
    → eight_in (join_with_byte 58 written) ≡ Some groups
eight_in-whole [] groups is eight = absurd cc
eight_in-whole (part ∷ written) groups is eight =
    let text = join_with_byte 58 (part ∷ written) in
    let are = (each_read (part ∷ written) groups is).are in
    let single : cut_double text ≡ None = sym (ap cut_double (append-nil text)) ∙ cut_double_joined part written [] are in
    rw (single, parts_joined part written are, is, eq-eqb (length groups) 8 eight)

whole_has_colon : (written : List (List ℕ)) → length written ≡ 8 → has_colon (join_with_byte 58 written) ≡ true
whole_has_colon [] eight = absurd cc
whole_has_colon (part ∷ []) eight = absurd cc
whole_has_colon (part ∷ next ∷ written) eight = has_colon-after part (join_with_byte 58 (next ∷ written))

cut_double_shortened : (before : List (List ℕ)) (back : List ℕ) → AreGroups before
    → cut_double (join_with_byte 58 before ++ (58 ∷ 58 ∷ back)) ≡ Some (join_with_byte 58 before, back)
cut_double_shortened [] back are = cut_double_here back
cut_double_shortened (part ∷ before) back are =
    rw (cut_double_joined part before (58 ∷ 58 ∷ back) are, cut_double_here back, append-nil (join_with_byte 58 (part ∷ before)))

eight_in-shortened : (before written : List (List ℕ)) (first last : List ℕ) → each group_in before ≡ Some first → each group_in written ≡ Some last
    → length first + length last ≤ 7 → eight_in (join_with_byte 58 before ++ (58 ∷ 58 ∷ join_with_byte 58 written))
    ≡ Some (first ++ (replicate (8 - (length first + length last)) 0 ++ last))
eight_in-shortened before written first last one two few =
    let are = (each_read before first one).are in
    let also = (each_read written last two).are in
    rw (
      cut_double_shortened before (join_with_byte 58 written) are,
      side_in_joined before are,
      side_in_joined written also,
      one,
      two,
      le-leb (length first + length last) 7 few,
    )

meaning_of_eight : (text groups : List ℕ) → has_colon text ≡ true → eight_in text ≡ Some groups → address_meaning text ≡ Ok (Six (address_of_groups groups))
meaning_of_eight text groups colon is =
    meaning_as_six text colon ∙ ap (λ found. mapped Six (bounded (λ written. true) address_of_groups found)) is

pub spelled_is_read : (text : List ℕ) (address : ℕ) → Spells text address → address_meaning text ≡ Ok (Six address)
spelled_is_read _ _ (whole written groups is eight) =
    meaning_of_eight (join_with_byte 58 written) groups (whole_has_colon written ((each_read written groups is).count
    ∙ eight)) (eight_in-whole written groups is eight)
spelled_is_read _ _ (shortened before written first last one two few) =
    meaning_of_eight (join_with_byte 58 before ++ (58 ∷ 58 ∷ join_with_byte 58 written)) (first ++ (replicate (8 - (length first + length last)) 0 ++ last))
    (has_colon-after (join_with_byte 58 before) (58 ∷ join_with_byte 58 written))
    (eight_in-shortened before written first last one two few)

all_eight_some : (found groups : List ℕ) → all_eight found ≡ Some groups → (found ≡ groups) × (length groups ≡ 8)
all_eight_some found groups is = by_test (length found == 8) refl is
  where
    by_test : (b : Bool) → (length found == 8) ≡ b → cond b (Some found) None ≡ Some groups → (found ≡ groups) × (length groups ≡ 8)
    by_test true eight same = let one : found ≡ groups = cc in (one, ap length (sym one) ∙ eqb-true (length found) 8 eight)
    by_test false eight same = absurd cc

-- eight groups by those that are written
abbrev all_of : List ℕ × List ℕ → List ℕ
all_of sides = sides.0 ++ (replicate (8 - (length sides.0 + length sides.1)) 0 ++ sides.1)

filled_some : (sides : List ℕ × List ℕ) (groups : List ℕ) → filled sides ≡ Some groups → (length sides.0 + length sides.1 ≤ 7) × (all_of sides ≡ groups)
filled_some sides groups is = by_test (leb (length sides.0 + length sides.1) 7) refl is
  where
    by_test : (b : Bool) → leb (length sides.0 + length sides.1) 7 ≡ b → cond b (Some (all_of sides)) None ≡ Some groups
        → (length sides.0 + length sides.1 ≤ 7) × (all_of sides ≡ groups)
    by_test true few same = (leb-true (length sides.0 + length sides.1) 7 few, cc)
    by_test false few same = absurd cc

side_is_joined : (text groups : List ℕ) → side_in text ≡ Some groups
    → (written : List (List ℕ)) × (join_with_byte 58 written ≡ text) × (each group_in written ≡ Some groups)
side_is_joined [] groups is = ([], refl, is)
side_is_joined (byte ∷ more) groups is = (parts 58 (byte ∷ more), join_with_byte-slice_split 58 (byte ∷ more), is)

spelled_by : (text : List ℕ) (sides : Option (List ℕ × List ℕ)) (groups : List ℕ) → Joins text sides → eight_by text sides ≡ Some groups
    → Spells text (address_of_groups groups)
spelled_by text None groups joins is =
    let found = and_then_some all_eight (groups_in text) groups is in
    let same = all_eight_some found.0 groups found.2 in
    subst (λ t. Spells t (address_of_groups groups)) (join_with_byte-slice_split 58 text) (whole (parts 58 text) groups (found.1 ∙ ap Some same.0) same.1)
spelled_by text (Some sides) groups joins is =
    let found = and_then_some filled (pair (side_in sides.0) (side_in sides.1)) groups is in
    let sides_are = pair_some (side_in sides.0) (side_in sides.1) found.0 found.1 in
    let same = filled_some found.0 groups found.2 in
    let before = side_is_joined sides.0 found.0.0 sides_are.0 in
    let written = side_is_joined sides.1 found.0.1 sides_are.1 in
    let text_is : join_with_byte 58 before.0 ++ (58 ∷ 58 ∷ join_with_byte 58 written.0) ≡ text = rw (before.1, written.1) (sym joins) in
    subst (λ t. Spells t (address_of_groups groups)) text_is
    (subst (λ eight. Spells (join_with_byte 58 before.0 ++ (58 ∷ 58 ∷ join_with_byte 58 written.0)) (address_of_groups eight)) same.1
    (shortened before.0 written.0 found.0.0 found.0.1 before.2 written.2 same.0))

spelled_by_eight : (text : List ℕ) (address : ℕ) (eight : Option (List ℕ)) → eight_in text ≡ eight
    → mapped Six (bounded (λ groups. true) address_of_groups eight) ≡ Ok (Six address) → Spells text address
spelled_by_eight text address None found is = absurd cc
spelled_by_eight text address (Some groups) found is =
    let same : address_of_groups groups ≡ address = cc in
    subst (Spells text) same (spelled_by text (cut_double text) groups (cut_double-joins text) found)

read_by_family : (text : List ℕ) (address : ℕ) (colon : Bool) → has_colon text ≡ colon → address_meaning text ≡ Ok (Six address) → Spells text address
read_by_family text address true colon is = spelled_by_eight text address (eight_in text) refl (sym (meaning_as_six text colon) ∙ is)
read_by_family text address false colon is = absurd (no_six (four_meaning text) (sym (meaning_as_four text colon) ∙ is))
  where
    no_six : (four : Result ℕ TextFault) → mapped Four four ≡ Ok (Six address) → ⊥
    no_six (Ok number) same = cc
    no_six (Err fault) same = cc

pub read_is_spelled : (text : List ℕ) (address : ℕ) → address_meaning text ≡ Ok (Six address) → Spells text address
read_is_spelled text address is = read_by_family text address (has_colon text) refl is

-- Ports, and the fields that they select: each range of fields is written by one row of the table.
use Rattle.std.proofs.Common.{◌≡◌, ℕ, ◌+◌, ◌*◌, ◌<◌, ◌≤◌, ◌&&◌, ◌||◌, Bool, true, false, cond, not, eqb, leb, min, List, [], ◌∷◌, length, refl, sym, ap}
use Rattle.std.proofs.Common.{subst, ◌∙◌, arith, ◌⊎◌, inl, inr}
use Rattle.std.specs.List.{list_all, list_any}
use Rattle.std.proofs.lemmas.Bool.{and_cases, and_from, and_parts, cases_eq, cases_lt, eq-eqb, eqb-true, false_from_ne_true, le-leb, leb-false}
use Rattle.std.proofs.lemmas.Bool.{lt-leb, ne_eqb, or_cases, or_left, or_right}
use Rattle.ts_span.specs.Span.{lies_in}
use Rattle.ts_span.specs.Spelling.{is_no_type}
use Rattle.ts_span.specs.Table.{field_rows, ports_by}
use Rattle.ts_span.proofs.Spans.{lies, lies_from, lies_in-one, lies_in-whole, same_test}

-- what ports select, and whether a payload can have them
abbrev pub ports_select : ℕ → ℕ × ℕ → ℕ → Bool
ports_select protocol ports field =
    cond ((eqb ports.0 0) && (eqb ports.1 65535)) (leb field 65536)
    (cond ((eqb ports.0 65535) && (eqb ports.1 0)) (eqb field 65536)
    (cond (eqb protocol 135) (lies_in ports (256 * field)) (lies_in ports field)))

abbrev pub ports_right : ℕ → ℕ × ℕ → Bool
ports_right protocol ports =
    (leb ports.0 65535 && leb ports.1 65535)
    && ((leb ports.0 ports.1 || ((eqb ports.0 65535) && (eqb ports.1 0)))
    && (not (eqb protocol 0) || (((eqb ports.0 0) && (eqb ports.1 65535)) || ((eqb ports.0 65535) && (eqb ports.1 0)))))

pub record AreRight (protocol : ℕ) (fields : ℕ × ℕ) (ports : List (ℕ × ℕ)) : Type 0 where
  pub same : (field : ℕ) → is_no_type protocol field ≡ false → list_any (λ pair. ports_select protocol pair field) ports ≡ lies_in fields field
  pub right : list_all (λ pair. ports_right protocol pair) ports ≡ true
  pub few : length ports ≤ 2

-- ---- tests

or_false : (x : Bool) → (x || false) ≡ x
or_false true = refl
or_false false = refl

pub dead : (x : Bool) → (x && false) ≡ false
dead true = refl
dead false = refl

any_protocol : (x : Bool) → (x || true) ≡ true
any_protocol true = refl
any_protocol false = refl

both_not : (m n j k : ℕ) → (m ≡ j → n ≡ k → ⊥) → ((eqb m j) && (eqb n k)) ≡ false
both_not m n j k h =
    false_from_ne_true ((eqb m j) && (eqb n k)) (λ e. let p = and_parts (eqb m j) (eqb n k) e in h (eqb-true m j p.0) (eqb-true n k p.1))

-- two ranges that follow one another
follow : (a m b f : ℕ) → a ≤ m + 1 → m ≤ b → (lies_in (a, m) f || (lies_in (m + 1, b) f || false)) ≡ lies_in (a, b) f
follow a m b f below in_order =
    same_test (lies_in (a, m) f || (lies_in (m + 1, b) f || false)) (lies_in (a, b) f)
    (λ h. elim (or_cases (lies_in (a, m) f) (lies_in (m + 1, b) f || false) h) [
      | inl i ↦ let l = lies (a, m) f i in let from = l.from in let to = l.to in lies_from (a, b) f (record { from = from; to = omega arith })
      | inr i ↦
          let e : lies_in (m + 1, b) f ≡ true = sym (or_false (lies_in (m + 1, b) f)) ∙ i in
          let l = lies (m + 1, b) f e in
          let from = l.from in
          lies_from (a, b) f (record { from = omega arith; to = l.to })
    ])
    (λ h.
    let l = lies (a, b) f h in
    let from = l.from in
    let to = l.to in
    elim (cases_lt m f) [
      | inl above ↦
          or_right (lies_in (a, m) f) (lies_in (m + 1, b) f || false)
          (or_left (lies_in (m + 1, b) f) false (lies_from (m + 1, b) f (record { from = omega arith; to = to })))
      | inr low ↦ or_left (lies_in (a, m) f) (lies_in (m + 1, b) f || false) (lies_from (a, m) f (record { from = from; to = low }))
    ])

-- a field of the Mobility Header that a packet can show
shown : (f : ℕ) → is_no_type 135 f ≡ false → (f ≤ 255) ⊎ (65535 < f)
shown f h = elim (and_cases (leb 256 f) (leb f 65535) h) [
  | inl e ↦ inl (let low = leb-false 256 f e in omega arith)
  | inr e ↦ inr (leb-false f 65535 e)
]

-- ---- what pairs of ports select

numbers_select : (protocol a b f : ℕ) → (protocol ≡ 135 → ⊥) → a ≤ b → (a ≡ 0 → b ≡ 65535 → ⊥) → ports_select protocol (a, b) f ≡ lies_in (a, b) f
numbers_select protocol a b f other in_order not_all =
    rw (both_not a b 0 65535 not_all, both_not a b 65535 0 (λ e g. omega arith), ne_eqb protocol 135 other) refl

types_select : (a c f : ℕ) → a ≤ c → c ≤ 255 → ports_select 135 (256 * a, 256 * c) f ≡ lies_in (a, c) f
types_select a c f in_order fits =
    rw (both_not (256 * a) (256 * c) 0 65535 (λ e g. omega arith), both_not (256 * a) (256 * c) 65535 0 (λ e g. omega arith))
    (same_test (lies_in (256 * a, 256 * c) (256 * f)) (lies_in (a, c) f)
    (λ h. let l = lies (256 * a, 256 * c) (256 * f) h in let from = l.from in let to = l.to in lies_from (a, c) f
    (record { from = omega arith; to = omega arith }))
    (λ h. let l = lies (a, c) f h in let from = l.from in let to = l.to in lies_from (256 * a, 256 * c) (256 * f)
    (record { from = omega arith; to = omega arith })))

-- ---- whether a payload can have them

numbers_right : (protocol a b : ℕ) → 1 ≤ protocol → a ≤ b → b ≤ 65535 → ports_right protocol (a, b) ≡ true
numbers_right protocol a b some in_order fits =
    rw (le-leb a 65535 (omega arith), le-leb b 65535 fits, le-leb a b in_order, ne_eqb protocol 0 (λ e. omega arith)) refl

-- ---- the rows

all_fields : (protocol : ℕ) → AreRight protocol (0, 65536) ((0, 65535) ∷ [])
all_fields protocol = record {
  same = λ f h. or_false (leb f 65536) ∙ sym (lies_in-whole 65536 f);
  right = rw (any_protocol (not (eqb protocol 0))) refl;
  few = omega arith;
}

opaque_field_alone : (protocol : ℕ) → AreRight protocol (65536, 65536) ((65535, 0) ∷ [])
opaque_field_alone protocol = record {
  same = λ f h. or_false (eqb f 65536) ∙ sym (lies_in-one 65536 f);
  right = rw (any_protocol (not (eqb protocol 0))) refl;
  few = omega arith;
}

halves : (protocol : ℕ) → 1 ≤ protocol → (protocol ≡ 135 → ⊥) → AreRight protocol (0, 65535) ((0, 32767) ∷ (32768, 65535) ∷ [])
halves protocol some other = record {
  same = λ f h. rw (ne_eqb protocol 135 other) (follow 0 32767 65535 f (omega arith) (omega arith));
  right = rw (ne_eqb protocol 0 (λ e. omega arith)) refl;
  few = omega arith;
}

numbers : (protocol a b : ℕ) → 1 ≤ protocol → (protocol ≡ 135 → ⊥) → a ≤ b → b ≤ 65535 → (a ≡ 0 → b ≡ 65535 → ⊥) → AreRight protocol (a, b) ((a, b) ∷ [])
numbers protocol a b some other in_order fits not_all = record {
  same = λ f h. or_false (ports_select protocol (a, b) f) ∙ numbers_select protocol a b f other in_order not_all;
  right = and_from (ports_right protocol (a, b)) true (numbers_right protocol a b some in_order fits) refl;
  few = omega arith;
}

numbers_and_opaque : (protocol a : ℕ) → 1 ≤ protocol → (protocol ≡ 135 → ⊥) → 1 ≤ a → a ≤ 65535
    → AreRight protocol (a, 65536) ((a, 65535) ∷ (65535, 0) ∷ [])
numbers_and_opaque protocol a some other low fits = record {
  same = λ f h.
      ap (λ x. x || (eqb f 65536 || false)) (numbers_select protocol a 65535 f other fits (λ e g. omega arith))
      ∙ (ap (λ x. lies_in (a, 65535) f || (x || false)) (sym (lies_in-one 65536 f)) ∙ follow a 65535 65536 f (omega arith) (omega arith));
  right = and_from (ports_right protocol (a, 65535)) (ports_right protocol (65535, 0) && true) (numbers_right protocol a 65535 some fits (omega arith))
      (rw (ne_eqb protocol 0 (λ e. omega arith)) refl);
  few = omega arith;
}

types : (a b : ℕ) → a ≤ 255 → a ≤ b → b ≤ 65535 → AreRight 135 (a, b) ((256 * a, 256 * min b 255) ∷ [])
types a b low in_order fits = record {
  same = λ f h.
      or_false (ports_select 135 (256 * a, 256 * min b 255) f)
      ∙ (types_select a (min b 255) f (omega arith) (omega arith)
      ∙ same_test (lies_in (a, min b 255) f) (lies_in (a, b) f)
      (λ i. let l = lies (a, min b 255) f i in let from = l.from in let to = l.to in lies_from (a, b) f (record { from = from; to = omega arith }))
      (λ i.
      let l = lies (a, b) f i in
      let from = l.from in
      let to = l.to in
      elim (shown f h) [
        | inl byte ↦ lies_from (a, min b 255) f (record { from = from; to = omega arith })
        | inr past ↦ absurd (omega arith)
      ]));
  right = and_from (ports_right 135 (256 * a, 256 * min b 255)) true (numbers_right 135 (256 * a) (256 * min b 255) (omega arith) (omega arith)
      (omega arith)) refl;
  few = omega arith;
}

types_and_opaque : (a : ℕ) → a ≤ 255 → AreRight 135 (a, 65536) ((256 * a, 65280) ∷ (65535, 0) ∷ [])
types_and_opaque a low = record {
  same = λ f h.
      ap (λ x. x || (eqb f 65536 || false)) (types_select a 255 f low (omega arith))
      ∙ same_test (lies_in (a, 255) f || (eqb f 65536 || false)) (lies_in (a, 65536) f)
      (λ i. elim (or_cases (lies_in (a, 255) f) (eqb f 65536 || false) i) [
        | inl j ↦ let l = lies (a, 255) f j in let from = l.from in let to = l.to in lies_from (a, 65536) f (record { from = from; to = omega arith })
        | inr j ↦
            let e : f ≡ 65536 = eqb-true f 65536 (sym (or_false (eqb f 65536)) ∙ j) in
            lies_from (a, 65536) f (record { from = omega arith; to = omega arith })
      ])
      (λ i.
      let l = lies (a, 65536) f i in
      let from = l.from in
      let to = l.to in
      elim (shown f h) [
        | inl byte ↦ or_left (lies_in (a, 255) f) (eqb f 65536 || false) (lies_from (a, 255) f (record { from = from; to = byte }))
        | inr past ↦ or_right (lies_in (a, 255) f) (eqb f 65536 || false) (or_left (eqb f 65536) false (eq-eqb f 65536 (omega arith)))
      ]);
  right = and_from (ports_right 135 (256 * a, 65280)) (ports_right 135 (65535, 0) && true) (numbers_right 135 (256 * a) 65280 (omega arith)
      (omega arith) (omega arith)) refl;
  few = omega arith;
}

past_types_and_opaque : (a : ℕ) → 256 ≤ a → a ≤ 65535 → AreRight 135 (a, 65536) ((65535, 0) ∷ [])
past_types_and_opaque a high fits = record {
  same = λ f h.
      or_false (eqb f 65536)
      ∙ same_test (eqb f 65536) (lies_in (a, 65536) f)
      (λ i. let e : f ≡ 65536 = eqb-true f 65536 i in lies_from (a, 65536) f (record { from = omega arith; to = omega arith }))
      (λ i.
      let l = lies (a, 65536) f i in
      let from = l.from in
      let to = l.to in
      elim (shown f h) [ inl byte ↦ absurd (omega arith) | inr past ↦ eq-eqb f 65536 (omega arith) ]);
  right = refl;
  few = omega arith;
}

past_types : (a b : ℕ) → 256 ≤ a → b ≤ 65535 → AreRight 135 (a, b) []
past_types a b high fits = record {
  same = λ f h.
      same_test false (lies_in (a, b) f)
      (λ i. absurd cc)
      (λ i.
      let l = lies (a, b) f i in
      let from = l.from in
      let to = l.to in
      elim (shown f h) [ inl byte ↦ absurd (omega arith) | inr past ↦ absurd (omega arith) ]);
  right = refl;
  few = omega arith;
}

-- ---- the row that has a range

abbrev by_table : ℕ → ℕ → ℕ → List (ℕ × ℕ)
by_table protocol a b = ports_by (eqb protocol 135) (a, b) field_rows

row-low : (b : ℕ) → b ≤ 65534 → ports_by false (0, b) field_rows ≡ (0, b) ∷ []
row-low b h =
    rw (lt-leb 65536 b (omega arith), lt-leb 65535 b (omega arith), le-leb 0 b (omega arith), le-leb b 65534 h) refl

row-numbers : (a b : ℕ) → 1 ≤ a → a ≤ b → b ≤ 65535 → ports_by false (a, b) field_rows ≡ (a, b) ∷ []
row-numbers a b low in_order fits =
    simp (
      le-leb 0 a (omega arith),
      lt-leb a 0 (omega arith),
      lt-leb 65536 a (omega arith),
      le-leb 1 a low,
      le-leb a 65535 (omega arith),
      le-leb 1 b (omega arith),
      le-leb b 65535 fits,
    )

row-numbers_and_opaque : (a : ℕ) → 1 ≤ a → a ≤ 65535 → ports_by false (a, 65536) field_rows ≡ (a, 65535) ∷ (65535, 0) ∷ []
row-numbers_and_opaque a low fits =
    simp (le-leb 0 a (omega arith), lt-leb a 0 (omega arith), lt-leb 65536 a (omega arith), le-leb 1 a low, le-leb a 65535 fits)

row-types : (a b : ℕ) → a ≤ 255 → b ≤ 65535 → ports_by true (a, b) field_rows ≡ (256 * a, 256 * min b 255) ∷ []
row-types a b low fits =
    simp (
      dead,
      le-leb 0 a (omega arith),
      lt-leb 65536 b (omega arith),
      lt-leb 65536 a (omega arith),
      le-leb a 255 low,
      le-leb 0 b (omega arith),
      le-leb b 65535 fits,
    )

row-types_and_opaque : (a : ℕ) → 1 ≤ a → a ≤ 255 → ports_by true (a, 65536) field_rows ≡ (256 * a, 65280) ∷ (65535, 0) ∷ []
row-types_and_opaque a some low =
    simp (le-leb 0 a (omega arith), lt-leb a 0 (omega arith), lt-leb 65536 a (omega arith), le-leb a 255 low, le-leb 1 a some)

row-past_types_and_opaque : (a : ℕ) → 256 ≤ a → a ≤ 65535 → ports_by true (a, 65536) field_rows ≡ (65535, 0) ∷ []
row-past_types_and_opaque a high fits =
    simp (
      le-leb 0 a (omega arith),
      lt-leb a 0 (omega arith),
      lt-leb 65536 a (omega arith),
      lt-leb a 255 (omega arith),
      le-leb 1 a (omega arith),
      le-leb 256 a high,
      le-leb a 65535 fits,
    )

row-past_types : (a b : ℕ) → 256 ≤ a → a ≤ b → b ≤ 65535 → ports_by true (a, b) field_rows ≡ []
row-past_types a b high in_order fits =
    simp (
      le-leb 0 a (omega arith),
      lt-leb a 0 (omega arith),
      lt-leb 65536 a (omega arith),
      lt-leb a 255 (omega arith),
      le-leb 1 a (omega arith),
      le-leb 256 a high,
      le-leb a 65535 (omega arith),
      lt-leb 65536 b (omega arith),
      le-leb 256 b (omega arith),
      le-leb b 65535 fits,
    )

abbrev ByTable : ℕ → ℕ → ℕ → Type 0
ByTable protocol a b = AreRight protocol (a, b) (by_table protocol a b)

given : (protocol a b : ℕ) (mobility : Bool) (ports : List (ℕ × ℕ)) → eqb protocol 135 ≡ mobility → ports_by mobility (a, b) field_rows ≡ ports
    → AreRight protocol (a, b) ports → ByTable protocol a b
given protocol a b mobility ports e f h =
    subst (λ (xs : List (ℕ × ℕ)). AreRight protocol (a, b) xs) (sym f ∙ sym (ap (λ (m : Bool). ports_by m (a, b) field_rows) e)) h

to_opaque : (protocol a : ℕ) → 1 ≤ protocol → 1 ≤ a → a ≤ 65535 → ByTable protocol a 65536
to_opaque protocol a some low fits =
    elim (cases_eq protocol 135) [
      | inl e ↦ subst (λ (n : ℕ). ByTable n a 65536) (sym e) (elim (cases_lt 255 a) [
        | inl high ↦ given 135 a 65536 true _ refl (row-past_types_and_opaque a (omega arith) fits) (past_types_and_opaque a (omega arith) fits)
        | inr byte ↦ given 135 a 65536 true _ refl (row-types_and_opaque a low byte) (types_and_opaque a byte)
      ])
      | inr other ↦
          given protocol a 65536 false _ (ne_eqb protocol 135 other) (row-numbers_and_opaque a low fits) (numbers_and_opaque protocol a some other low fits)
    ]

to_number : (protocol a b : ℕ) → 1 ≤ protocol → a ≤ b → b ≤ 65535 → ByTable protocol a b
to_number protocol a b some in_order fits =
    elim (cases_eq protocol 135) [
      | inl e ↦ subst (λ (n : ℕ). ByTable n a b) (sym e) (elim (cases_lt 255 a) [
        | inl high ↦ given 135 a b true _ refl (row-past_types a b (omega arith) in_order fits) (past_types a b (omega arith) fits)
        | inr byte ↦ given 135 a b true _ refl (row-types a b byte fits) (types a b byte in_order fits)
      ])
      | inr other ↦ elim (cases_eq a 0) [
        | inl zero_low ↦ subst (λ (n : ℕ). ByTable protocol n b) (sym zero_low) (elim (cases_eq b 65535) [
          | inl top ↦ subst (λ (n : ℕ). ByTable protocol 0 n) (sym top) (given protocol 0 65535 false _ (ne_eqb protocol 135 other) refl
              (halves protocol some other))
          | inr below ↦
              given protocol 0 b false _ (ne_eqb protocol 135 other) (row-low b (omega arith)) (numbers protocol 0 b some other (omega arith) fits
              (λ e g. below g))
        ])
        | inr not_zero ↦
            given protocol a b false _ (ne_eqb protocol 135 other) (row-numbers a b (omega arith) in_order fits)
            (numbers protocol a b some other in_order fits (λ e g. not_zero e))
      ]
    ]

-- a range of fields, and a protocol with which it can be written
abbrev pub CanWrite : ℕ → ℕ → ℕ → Type 0
CanWrite protocol a b = (1 ≤ protocol) ⊎ ((b ≡ 65536) × ((a ≡ 0) ⊎ (a ≡ 65536)))

all_by : (protocol : ℕ) (mobility : Bool) → eqb protocol 135 ≡ mobility → ByTable protocol 0 65536
all_by protocol mobility e = given protocol 0 65536 mobility _ e refl (all_fields protocol)

opaque_by : (protocol : ℕ) (mobility : Bool) → eqb protocol 135 ≡ mobility → ByTable protocol 65536 65536
opaque_by protocol mobility e = given protocol 65536 65536 mobility _ e refl (opaque_field_alone protocol)

some_protocol : (protocol a b : ℕ) → CanWrite protocol a b → (b ≡ 65536 → (a ≡ 0 → ⊥) × (a ≡ 65536 → ⊥)) → 1 ≤ protocol
some_protocol protocol a b (inl some) other = some
some_protocol protocol a b (inr whole) other =
    let no = other whole.0 in
    elim whole.1 [ inl e ↦ absurd (no.0 e) | inr e ↦ absurd (no.1 e) ]

pub by_table-right : (protocol a b : ℕ) → a ≤ b → b ≤ 65536 → CanWrite protocol a b → ByTable protocol a b
by_table-right protocol a b in_order fits can =
    elim (cases_eq b 65536) [
      | inl top ↦ elim (cases_eq a 0) [
        | inl whole ↦ subst (λ (n : ℕ). ByTable protocol n b) (sym whole) (subst (λ (n : ℕ). ByTable protocol 0 n) (sym top) (all_by protocol
            (eqb protocol 135) refl))
        | inr not_zero ↦ elim (cases_eq a 65536) [
          | inl alone ↦
              subst (λ (n : ℕ). ByTable protocol n b) (sym alone) (subst (λ (n : ℕ). ByTable protocol 65536 n) (sym top) (opaque_by protocol
              (eqb protocol 135) refl))
          | inr not_opaque ↦
              subst (λ (n : ℕ). ByTable protocol a n) (sym top)
              (to_opaque protocol a (some_protocol protocol a b can (λ e. (not_zero, not_opaque))) (omega arith) (omega arith))
        ]
      ]
      | inr not_top ↦ to_number protocol a b (some_protocol protocol a b can (λ e. absurd (not_top e))) in_order (omega arith)
    ]

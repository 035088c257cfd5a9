-- The rows follow one another, so the first that doesn't end before the protocol has it.
use Rattle.std.proofs.Common.{◌≡◌, ℕ, ◌+◌, ◌<◌, ◌≤◌, List, length, get_or, drop, true, rules, arith}
use Rattle.sel_box.specs.declared.class.ClassRow.{ClassRow}
use Rattle.sel_box.specs.declared.class.Shape.TheVariants.{NoField}
use Rattle.sel_box.specs.Classes.{row_has, rows_follow}
use Rattle.sel_box.proofs.ClassRows.{classes_follow, classes_right-at, row_fields, row_has-from_ends, row_shape, row_top, rows_follow-at, rows_follow-none_left}
use Rattle.sel_box.proofs.class.Classes.row.Goals as goal

abbrev no_row : ClassRow
no_row = record { first = 0; last = 0; shape = NoField; top = 0 }

-- the row that isn't before the protocol, in rows that follow one another from one at or before it
row_found : (rows : List ClassRow) (i protocol : ℕ) → i < length rows → protocol ≤ (get_or rows i no_row).last →
    (next : ℕ) × (next ≤ protocol) × (rows_follow next (drop i rows) ≡ true) →
    row_has (get_or rows i no_row) protocol ≡ true
row_found rows i protocol below high invariant =
    row_has-from_ends (get_or rows i no_row) protocol
    (rows_follow-at rows i no_row invariant.0 protocol below invariant.1 invariant.2).0 high

pub loop-row-init : goal.loop-row-init
loop-row-init g c = (0, omega arith, classes_follow c.args.self.now.rows c.args.self.now.parted)

pub returns-then-protocol-row-clause-protocol : goal.returns-then-protocol-row-clause-protocol
returns-then-protocol-row-clause-protocol g c =
    row_found c.args.self.now.rows c.loop-row.row-index c.args.protocol (search rules) c.if-protocol-row.true c.loop-row.invariant

pub returns-then-protocol-row-clause-shape : goal.returns-then-protocol-row-clause-shape
returns-then-protocol-row-clause-shape g c =
    row_shape (get_or c.args.self.now.rows c.loop-row.row-index no_row) c.args.protocol
    (classes_right-at c.args.self.now.rows c.loop-row.row-index no_row c.args.self.now.parted (search rules))
    (row_found c.args.self.now.rows c.loop-row.row-index c.args.protocol (search rules) c.if-protocol-row.true c.loop-row.invariant)

pub returns-then-protocol-row-clause-top : goal.returns-then-protocol-row-clause-top
returns-then-protocol-row-clause-top g c =
    row_top (get_or c.args.self.now.rows c.loop-row.row-index no_row) c.args.protocol
    (classes_right-at c.args.self.now.rows c.loop-row.row-index no_row c.args.self.now.parted (search rules))
    (row_found c.args.self.now.rows c.loop-row.row-index c.args.protocol (search rules) c.if-protocol-row.true c.loop-row.invariant)

pub returns-then-protocol-row-clause-fields : goal.returns-then-protocol-row-clause-fields
returns-then-protocol-row-clause-fields g c =
    λ source destination.
    row_fields (get_or c.args.self.now.rows c.loop-row.row-index no_row) c.args.protocol source destination
    (classes_right-at c.args.self.now.rows c.loop-row.row-index no_row c.args.self.now.parted (search rules))
    (row_found c.args.self.now.rows c.loop-row.row-index c.args.protocol (search rules) c.if-protocol-row.true c.loop-row.invariant)

pub loop-row-preserved : goal.loop-row-preserved
loop-row-preserved g c =
    let row = get_or c.args.self.now.rows c.loop-row.row-index no_row in
    let after =
    rows_follow-at c.args.self.now.rows c.loop-row.row-index no_row c.loop-row.invariant.0 c.args.protocol (search rules)
    c.loop-row.invariant.1 c.loop-row.invariant.2 in
    (row.last + 1, omega (arith, c.if-protocol-row.false), after.1)

pub unreachable-requires : goal.unreachable-requires
unreachable-requires g c =
    rows_follow-none_left c.args.self.now.rows c.loop-row.row-index c.loop-row.invariant.0 c.args.protocol (search rules)
    c.loop-row.invariant.1 c.requires c.loop-row.invariant.2

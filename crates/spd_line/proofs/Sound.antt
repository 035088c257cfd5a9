-- A line has few boxes, since its parts have no fault.
use Rattle.std.proofs.Common.{◌≡◌, ◌≤◌, Bool, true, false, not, nat_lt, length, Some, None, if◌then◌else◌, refl, arith}
use Rattle.std.proofs.lemmas.Bool.Decides.{nat_tests}
use Rattle.sel_box.specs.declared.packet.Direction.{Direction}
use Rattle.spd_line.specs.declared.fault.LineFault.{LineFault}
use Rattle.spd_line.specs.declared.line.LineParts.{LineParts}
use Rattle.spd_line.specs.Families.{shares_family}
use Rattle.spd_line.specs.Fault.{is_too_wide, line_fault, mixes_gates, protects_one_way}
use Rattle.spd_line.specs.IsLine.{IsLine}
use Rattle.spd_line.specs.LineBoxes.{line_boxes}
use Rattle.spd_line.specs.Ports.{flags_no_field, flags_opaque, ports_fit}
use Rattle.spd_line.specs.Width.{box_count}
use Rattle.spd_line.proofs.LineBoxCount.{line_boxes-few}

-- Where no fault is found, the last test answered false.
none_wide : (protects mixes shares fits no_field opaque wide : Bool) →
    (if protects then Some LineFault.ProtectOneWay
    else if mixes then Some LineFault.GateFamily
    else if not shares then Some LineFault.NoFamily
    else if not fits then Some LineFault.PortNoProtocol
    else if no_field then Some LineFault.PfpNoField
    else if opaque then Some LineFault.PfpOpaque
    else if wide then Some LineFault.TooWide
    else None) ≡ None → wide ≡ false
none_wide true mixes shares fits no_field opaque wide none = cc
none_wide false true shares fits no_field opaque wide none = cc
none_wide false false false fits no_field opaque wide none = cc
none_wide false false true false no_field opaque wide none = cc
none_wide false false true true true opaque wide none = cc
none_wide false false true true false true wide none = cc
none_wide false false true true false false true none = cc
none_wide false false true true false false false none = refl

pub few_boxes : (d : Direction) (line : LineParts) → IsLine line → length (line_boxes d line) ≤ 4096
unfolding line_fault
few_boxes d line is =
    let wide : nat_lt 4096 (box_count line) ≡ false =
    none_wide (protects_one_way line.action line.way) (mixes_gates line.action) (shares_family line) (ports_fit line) (flags_no_field line)
    (flags_opaque line) (is_too_wide line) is.sound in
    let within : box_count line ≤ 4096 = grind (arith, nat_tests) in
    let few : length (line_boxes d line) ≤ box_count line = line_boxes-few d line in
    omega arith

-- Which points a proposal covers, and which of them a selector of one protocol can name (RFC 7296 section 2.9).
use Rattle.std.specs.Prelude.{Bool, ◌&&◌, List}
use Rattle.sel_box.specs.Point.{PointFields}
use Rattle.ts_payload.specs.declared.selector.Ts.{Ts}
use Rattle.ts_span.specs.Span.{lies_in}
use Rattle.ts_span.specs.Spelling.{some_selects}

-- Some selector of the initiator selects the point's remote side, and some selector of the responder its local side.
abbrev pub covered : List Ts → List Ts → PointFields → Bool
covered tsi tsr x =
    some_selects tsi x.family x.remote x.protocol x.remote_field && some_selects tsr x.family x.local x.protocol x.local_field

-- The point's protocol is a number that a selector can name by itself: 0 stands for all, and OPAQUE has none.
abbrev pub is_sayable : PointFields → Bool
is_sayable x = lies_in (1, 255) x.protocol

-- The pairs of a selector of the initiator and one of the responder, as boxes.
use Rattle.std.specs.Prelude.{ℕ, min, max, Bool, List, [], ◌∷◌, Option, Some, None, if◌then◌else◌}
use Rattle.std.specs.List.{flat_map, list_any}
use Rattle.std.specs.Option.{option_to_list}
use Rattle.sel_box.specs.declared.any_box.AnyBox.{AnyBox}
use Rattle.sel_box.specs.Bounds.{box_of}
use Rattle.sel_box.specs.Boxes.{box_has}
use Rattle.sel_box.specs.Point.{PointFields}
use Rattle.sel_text.specs.Family.{same_family}
use Rattle.ts_payload.specs.declared.selector.Ts.{Ts}
use Rattle.ts_span.specs.declared.spanning.TsSpan.{TsSpan}
use Rattle.ts_span.specs.Span.{span_of}

-- From the greater of two lows to the lesser of two highs.
abbrev pub meet_bounds : ℕ × ℕ → ℕ × ℕ → ℕ × ℕ
meet_bounds a b = (max a.0 b.0, min a.1 b.1)

-- The box of what one span has on the remote side and another on the local side.
abbrev pub span_box : TsSpan → TsSpan → Option AnyBox
span_box remote local =
    if same_family remote.family local.family
    then box_of local.family (
    local.addresses
    ∷ remote.addresses
    ∷ meet_bounds remote.protocols local.protocols
    ∷ local.fields
    ∷ remote.fields
    ∷ []
    )
    else None

abbrev pub both_spans : Option TsSpan → Option TsSpan → Option AnyBox
both_spans (Some remote) (Some local) = span_box remote local
both_spans _ _ = None

-- The box of a selector of the initiator, who is the remote side, and one of the responder: none where they are of two families
-- or a part is empty.
abbrev pub pair_box : Ts → Ts → Option AnyBox
pair_box remote local = both_spans (span_of remote) (span_of local)

-- The box of the first selector of the initiator and the first of the responder, where there is one.
abbrev pub first_pair : List Ts → List Ts → Option AnyBox
first_pair (remote ∷ tsi) (local ∷ tsr) = pair_box remote local
first_pair _ _ = None

-- The boxes of one selector of the initiator with each of the responder.
abbrev pub row_of : Ts → List Ts → List AnyBox
row_of remote tsr = flat_map (λ local. option_to_list (pair_box remote local)) tsr

-- The boxes of all pairs, by the selectors of the initiator and then those of the responder.
unfoldable pub pairs : List Ts → List Ts → List AnyBox
pairs tsi tsr = flat_map (λ remote. row_of remote tsr) tsi

-- Some box has the point.
abbrev pub boxes_have : List AnyBox → PointFields → Bool
boxes_have boxes x = list_any (λ region. box_has region x) boxes

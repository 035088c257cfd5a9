-- The groups that a policy has under its keys.
use Rattle.std.specs.Prelude.{◌≡◌, List}
use Rattle.sel_box.specs.declared.packet.Direction.{Direction}
use Rattle.sel_box.specs.Point.{IsReal, PointFields}
use Rattle.spd_line.specs.declared.judgement.Answer.{Answer}
use Rattle.spd_line.specs.declared.line.LineParts.{LineParts}
use Rattle.spd_line.specs.declared.line_boxes.LineBox.{LineBox}
use Rattle.spd_line.specs.First.{first_place, name_at, verdict_of}
use Rattle.spd_cache.specs.declared.key.Key.{Key}
use Rattle.spd_cache.specs.Cached.{Cell}
use Rattle.spd_cache.specs.Key.{same_key}
use Rattle.spd_cache.specs.KeyOf.{key_of, place_named}
use Rattle.spd_groups.specs.declared.looking.Looked.{Looked}
use Rattle.spd_cut.specs.Entries.{entries}
use Rattle.spd_cut.specs.Group.{group_has, group_of}

-- The answer to a point: the name of its first line, and that line's judgement.
abbrev pub answer_of : Direction → PointFields → List LineParts → Answer
answer_of d x lines = record { name = name_at lines (first_place d x lines); judgement = (verdict_of d x lines).judgement }

-- The group of a key: the entries of the line of its name, each met with its values.
abbrev pub group_at : List LineParts → Key → List LineBox
group_at lines key = group_of (entries key.direction lines) (place_named key.name lines) key.pins

-- That group has exactly the real points whose key it is.
abbrev pub HasItsPoints : List LineParts → Key → Type 0
HasItsPoints lines key = (x : PointFields) → IsReal x → group_has (group_at lines key) x ≡ same_key key (key_of key.direction x lines)

-- A cached group is the one that its key has under the policy.
pub record IsGroup (lines : List LineParts) (cell : Cell) : Type 0 where
  pub is : cell.1 ≡ group_at lines cell.0
  pub has : HasItsPoints lines cell.0

-- What a look at the policy finds of a point: its answer, its key, and the group of that key.
abbrev pub looked : Direction → PointFields → List LineParts → Looked
looked d x lines =
    let key = key_of d x lines in
    record { answer = answer_of d x lines; key = key; group = group_at lines key }

use Rattle.std.proofs.Common.{◌≡◌, length, drop, map}
use Rattle.toml.specs.View.{view}
use Rattle.spd_file.specs.Steps.{all_read}
use Rattle.spd_file.specs.Values.{text_by_grammar}
use Rattle.spd_file.proofs.Each.{after}
use Rattle.spd_file.proofs.line_table.LineTable.items_of.Given as goal

-- What was read so far, and then what is left, is all.
abbrev pub invariant-loop-value : goal.invariant-loop-value
invariant-loop-value g l = record {
  items : all_read (text_by_grammar g.T.Item.meaning) (map view l.values)
      ≡ after l.items (all_read (text_by_grammar g.T.Item.meaning) (map view (drop l.value-index l.values)));
  count : length l.items ≡ l.value-index;
}

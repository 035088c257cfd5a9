use Rattle.std.proofs.Common.{refl}
use Rattle.sel_box.specs.Classes.{class_rows}
use Rattle.sel_box.proofs.ClassRows.{AreClasses-from_test, class_rows-right}
use Rattle.sel_box.proofs.class_table.classes.Goals as goal

pub invariant_of-result : goal.invariant_of-result
unfolding class_rows
invariant_of-result c = record { parted = class_rows-right }

pub returns-clause-rows : goal.returns-clause-rows
unfolding class_rows
returns-clause-rows c = refl

pub returns-clause-classes : goal.returns-clause-classes
unfolding class_rows
returns-clause-classes c = AreClasses-from_test _ class_rows-right

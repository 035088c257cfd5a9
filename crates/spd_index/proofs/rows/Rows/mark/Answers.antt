use Rattle.std.proofs.Common.{inl, inr}
use Rattle.std.proofs.lemmas.Bool.{cases_lt}
use Rattle.spd_index.proofs.Stands.{Keeps-trans, StandsIn-kept}
use Rattle.spd_index.proofs.rows.Rows.mark.Goals as goal

pub loop-part-preserved : goal.loop-part-preserved
loop-part-preserved c =
    let before = c.loop-part.invariant in
    record {
      kept = Keeps-trans c.args.self.now c.loop-part.self c.mark_next-part.new.self before.kept c.mark_next-part.ensures.kept;
      marked = λ part low high. elim (cases_lt part c.loop-part.part) [
        | inl passed ↦ StandsIn-kept c.loop-part.self c.mark_next-part.new.self part c.args.line c.mark_next-part.ensures.kept (before.marked part low passed)
        | inr here ↦ c.mark_next-part.ensures.marked part here high
      ];
    }

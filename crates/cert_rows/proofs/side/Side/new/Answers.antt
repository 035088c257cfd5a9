use Rattle.std.proofs.Common.{length, sym, ap, ◌∙◌}
use Rattle.cert_rows.specs.Gathered.{rows_at}
use Rattle.cert_rows.proofs.Gathers.{marks-length}
use Rattle.cert_rows.proofs.side.Side.new.Goals as goal

pub invariant_of-result : goal.invariant_of-result
invariant_of-result g c =
    let rows = rows_at c.args.gateway (g.L.Lines.lines c.args.lines.now) in
    record {
      alike = ap length c.in_ok-regions.ensures.marks_are ∙ marks-length 1 rows
          ∙ sym (ap length (c.in_ok-from_list.ensures ∙ c.in_ok-regions.ensures.regions_are));
    }

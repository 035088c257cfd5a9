use Rattle.spd_index.proofs.index.Index.new.Goals as goal

pub returns-then-count-le-FEW : goal.returns-then-count-le-FEW
returns-then-count-le-FEW g c = c.without_rows.ensures (g.L.Lines.lines c.args.lines.now)

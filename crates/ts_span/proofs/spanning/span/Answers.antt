use Rattle.std.proofs.Common.{sym}
use Rattle.ts_span.proofs.Spans.{span_in_order, span_selected}
use Rattle.ts_span.proofs.spanning.span.Goals as goal

pub returns-clause-some : goal.returns-clause-some
returns-clause-some c =
    λ family address protocol field. rw c.protocols_of.ensures
    (span_selected c.args.selector.now c.in_ok-fields.fields (sym c.in_ok-fields.ensures) family address protocol field)

pub returns-clause-in_order : goal.returns-clause-in_order
returns-clause-in_order c =
    λ right. rw c.protocols_of.ensures (span_in_order c.args.selector.now c.in_ok-fields.fields (sym c.in_ok-fields.ensures) right)

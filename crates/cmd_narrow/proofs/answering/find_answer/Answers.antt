use Rattle.std.proofs.Common.{List, ap₂, sym, subst}
use Rattle.sel_box.specs.declared.packet.Direction.TheVariants.{Outbound, Inbound}
use Rattle.spd_cut.specs.declared.entry.Entry.{Entry}
use Rattle.spd_cut.specs.StandsFor.{StandsFor}
use Rattle.ts_narrow.specs.Narrowing.{narrowing}
use Rattle.ts_narrow.proofs.Answering.{if_ok_then}
use Rattle.cmd_narrow.proofs.Printed.{CanPrint-answer}
use Rattle.cmd_narrow.proofs.answering.find_answer.Goals as goal

pub returns-clause-answer : goal.returns-clause-answer
returns-clause-answer c =
    if_ok_then c.narrow.result _ _
    (ap₂ (λ (outbound inbound : List Entry). narrowing outbound inbound c.args.proposal.now.tsi c.args.proposal.now.tsr)
    c.requires.outbound c.requires.inbound)
    c.narrow.ensures.narrowing

pub returns-clause-printable : goal.returns-clause-printable
returns-clause-printable c =
    let lines = c.args.lines.now in
    CanPrint-answer (record { low = c.the_first_line_is_the_least.ensures.low; high = c.the_first_line_is_the_least.ensures.high }) lines
    c.args.outbound.now c.args.inbound.now c.args.proposal.now.tsi c.args.proposal.now.tsr c.narrow.result
    (record {
      outbound_stands = subst (λ (list : List Entry). StandsFor list Outbound lines) (sym c.requires.outbound)
          (c.entries_stand_for.ensures Outbound lines);
      inbound_stands = subst (λ (list : List Entry). StandsFor list Inbound lines) (sym c.requires.inbound)
          (c.entries_stand_for.ensures Inbound lines);
    })
    c.narrow.ensures.within c.narrow.ensures.some c.narrow.ensures.selectors c.requires.few_tsi c.requires.few_tsr

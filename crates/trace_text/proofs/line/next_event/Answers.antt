use Rattle.std.proofs.Common.{Ok, Err, refl}
use Rattle.std.specs.Prelude.{option_map}
use Rattle.trace_text.specs.declared.fault.EventFault.TheVariants.{LineTooLong}
use Rattle.trace_text.specs.Event.{event_now}
use Rattle.sel_text.specs.Lines.{before_feed}
use Rattle.sel_text.proofs.Lines.{lines_of-first, drop-first}
use Rattle.trace_text.proofs.Feeds.{events_of-first, long_line}
use Rattle.trace_text.proofs.line.next_event.Goals as goal

pub returns-in_default-clause-fault : goal.returns-in_default-clause-fault
returns-in_default-clause-fault c =
    let bytes = c.args.bytes.now in
    events_of-first bytes (before_feed bytes) (Err LineTooLong) c.requires refl (long_line (before_feed bytes) c.in_default.ensures.long)

pub returns-in-Ok-clause-line : goal.returns-in-Ok-clause-line
returns-in-Ok-clause-line c =
    rw (c.min-taken.ensures, c.in-Some.ensures.line) (lines_of-first c.args.bytes.now c.requires)

pub returns-in-Ok-clause-event : goal.returns-in-Ok-clause-event
returns-in-Ok-clause-event c =
    rw (c.min-taken.ensures, c.in-Some.ensures.line, drop-first c.args.bytes.now)
    (events_of-first c.args.bytes.now c.in-Some.line.now (Ok (option_map event_now c.in-Ok.event)) c.requires c.in-Some.ensures.line c.in-Ok.ensures.meaning)

pub returns-in-Err-clause-fault : goal.returns-in-Err-clause-fault
returns-in-Err-clause-fault c =
    events_of-first c.args.bytes.now c.in-Some.line.now (Err c.in-Err.fault) c.requires c.in-Some.ensures.line c.in-Err.ensures.meaning

use Rattle.std.proofs.Common.{◌≡◌, Option, Some, rules, subst, sym}
use Rattle.std.proofs.lemmas.Result.{err_from_is_err_and}
use Rattle.std.specs.Prelude.{option_map}
use Rattle.trace_text.specs.Event.{event_now, TraceEvent}
use Rattle.audit_frame.specs.Ends.{EndsBy}
use Rattle.cmd_replay.specs.declared.stop.Stop.{Stop}
use Rattle.cmd_replay.specs.Replay.{by_event}
use Rattle.cmd_replay.specs.Stop.{ended_at}
use Rattle.cmd_replay.proofs.Steps.{EndsBy-line, IsSent-reply}
use Rattle.cmd_replay.proofs.tracing.replay_event.Goals as goal

pub returns-in_err-write_line-clause-stopped : goal.returns-in_err-write_line-clause-stopped
returns-in_err-write_line-clause-stopped g c =
    let p = err_from_is_err_and c.from_residual-in_err-write_line.result c.from_residual-in_err-write_line.ensures.1 in
    let asked : option_map event_now c.args.event.now ≡ Some (event_now c.in-Some.event) = search rules in
    rw (p.1, p.2) (λ word others.
    subst (λ (event : Option TraceEvent). EndsBy (by_event word c.args.number event c.args.shared.now others) (g.O.Sink.told c.args.out.now)
    (g.O.Sink.told c.write_line.new.out) (ended_at word c.args.number (Stop.Unwritten c.in_err-write_line.field-0.0))) (sym asked)
    (EndsBy-line word c.args.number _ _ _ others _ _ _ c.in_ok-reply.ensures.reply c.in_err-write_line.ensures.prefix))

pub returns-clause-replayed : goal.returns-clause-replayed
returns-clause-replayed g c =
    let asked : option_map event_now c.args.event.now ≡ Some (event_now c.in-Some.event) = search rules in
    λ word others. rw asked
    (IsSent-reply word c.args.number _ _ _ others _ _ c.in_ok-reply.ensures.reply c.in_ok-write_line.ensures.written)

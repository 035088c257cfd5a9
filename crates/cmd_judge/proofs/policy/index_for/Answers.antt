use Rattle.cmd_judge.proofs.policy.index_for.Goals as goal

pub returns-then-trace_len-lt-LONG_TRACE : goal.returns-then-trace_len-lt-LONG_TRACE
returns-then-trace_len-lt-LONG_TRACE c = c.without_rows.ensures c.args.lines.now

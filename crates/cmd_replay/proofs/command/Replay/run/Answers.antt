use Rattle.std.proofs.Common.{refl, ap, arith}
use Rattle.std.proofs.lemmas.Result.{err_from_is_err_and}
use Rattle.spd_lanes.specs.Policy.{over, Policy}
use Rattle.audit_frame.specs.Causes.{reads}
use Rattle.audit_frame.proofs.Runs.{Runs-unloaded}
use Rattle.cmd_replay.specs.Replay.{by_trace}
use Rattle.cmd_replay.specs.Words.{most_trace, replay_files, ReplayWords}
use Rattle.cmd_replay.proofs.Stages.{Runs-compiled, Runs-lines, Runs-no_memory, Runs-replayed, Runs-trace, Runs-uncompiled}
use Rattle.cmd_replay.proofs.command.Replay.run.Goals as goal

pub returns-in_err-compiled : goal.returns-in_err-compiled
returns-in_err-compiled g c =
    let p = err_from_is_err_and c.from_residual-in_err-compiled.result c.from_residual-in_err-compiled.ensures.1 in
    let self = c.self.inside in
    let command : ReplayWords = record { limit = self.limit; capacity = self.capacity; policy = self.policy; trace = self.trace } in
    let told = g.F.Files.told c.args.files.now in
    let lines = c.in_ok-lines.ensures in
    rw (p.1, p.2, ← c.self.view_is)
    (Runs-lines command c.in_ok-lines.lines told _
    (reads (g.F.Files.faults c.load_policy.new.files) (g.F.Files.taken c.load_policy.new.files) (g.F.Files.end c.load_policy.new.files)) _ _ _ _ _ _
    lines.within lines.lines lines.faults lines.taken
    (Runs-uncompiled command (over command.limit c.in_ok-lines.lines) _ told _ _ _ _ _ (rw c.word-word.ensures at c.in_err-compiled.ensures.refused)))

pub returns-in_err-trace : goal.returns-in_err-trace
returns-in_err-trace g c =
    let p = err_from_is_err_and c.from_residual-in_err-trace.result c.from_residual-in_err-trace.ensures.1 in
    let self = c.self.inside in
    let command : ReplayWords = record { limit = self.limit; capacity = self.capacity; policy = self.policy; trace = self.trace } in
    let told = g.F.Files.told c.args.files.now in
    let lines = c.in_ok-lines.ensures in
    let refused = rw c.load_policy.ensures.told at c.in_err-trace.ensures.refused in
    rw (p.1, p.2, ← c.self.view_is)
    (Runs-lines command c.in_ok-lines.lines told _
    (reads (g.F.Files.faults c.load_policy.new.files) (g.F.Files.taken c.load_policy.new.files) (g.F.Files.end c.load_policy.new.files)) _ _ _ _ _ _
    lines.within lines.lines lines.faults lines.taken
    (Runs-compiled command (over command.limit c.in_ok-lines.lines) _ told _ _ _ _ _ _ _ c.in_ok-compiled.ensures.within
    (Runs-unloaded (by_trace command c.in_ok-lines.lines) (replay_files command) told command.trace most_trace _ _ _ _ _ (1, omega arith, refl) refused)))

pub returns-in_err-shared : goal.returns-in_err-shared
returns-in_err-shared g c =
    let p = err_from_is_err_and c.from_residual-in_err-shared.result c.from_residual-in_err-shared.ensures.1 in
    let self = c.self.inside in
    let command : ReplayWords = record { limit = self.limit; capacity = self.capacity; policy = self.policy; trace = self.trace } in
    let told = g.F.Files.told c.args.files.now in
    let lines = c.in_ok-lines.ensures in
    let trace = c.in_ok-trace.ensures in
    let content = rw c.load_policy.ensures.told at trace.content in
    rw (p.1, p.2, ← c.self.view_is)
    (Runs-lines command c.in_ok-lines.lines told _
    (reads (g.F.Files.faults c.load_policy.new.files) (g.F.Files.taken c.load_policy.new.files) (g.F.Files.end c.load_policy.new.files)) _ _ _ _ _ _
    lines.within lines.lines lines.faults lines.taken
    (Runs-trace command c.in_ok-lines.lines c.in_ok-trace.trace told _
    (reads (g.F.Files.faults c.load_file.new.files) (g.F.Files.taken c.load_file.new.files) (g.F.Files.end c.load_file.new.files)) _ _ _ _ _ _
    c.in_ok-compiled.ensures.within content trace.within trace.faults trace.taken
    (Runs-no_memory (by_trace command c.in_ok-lines.lines c.in_ok-trace.trace) (replay_files command) told _ _ _ _)))

pub returns : goal.returns
returns g c =
    let self = c.self.inside in
    let command : ReplayWords = record { limit = self.limit; capacity = self.capacity; policy = self.policy; trace = self.trace } in
    let told = g.F.Files.told c.args.files.now in
    let lines = c.in_ok-lines.ensures in
    let trace = c.in_ok-trace.ensures in
    let content = rw c.load_policy.ensures.told at trace.content in
    let ends =
    rw (
      c.as_slice.ensures,
      c.in_ok-shared.ensures,
      ap (λ (k : Policy). k.lines) c.in_ok-compiled.ensures.compiled,
      ap (λ (k : Policy). k.limit) c.in_ok-compiled.ensures.compiled,
      c.word-word.ensures,
    )
    at c.replay_trace.ensures.ends in
    let refused = rw c.word-word.ensures at c.replay_trace.ensures.refused in
    rw (← c.self.view_is)
    (Runs-lines command c.in_ok-lines.lines told _
    (reads (g.F.Files.faults c.load_policy.new.files) (g.F.Files.taken c.load_policy.new.files) (g.F.Files.end c.load_policy.new.files)) _ _ _ _ _ _
    lines.within lines.lines lines.faults lines.taken
    (Runs-trace command c.in_ok-lines.lines c.in_ok-trace.trace told _
    (reads (g.F.Files.faults c.load_file.new.files) (g.F.Files.taken c.load_file.new.files) (g.F.Files.end c.load_file.new.files)) _ _ _ _ _ _
    c.in_ok-compiled.ensures.within content trace.within trace.faults trace.taken
    (Runs-replayed command _ told _ _ _ _ _ _ _ ends c.replay_trace.ensures.counts refused)))

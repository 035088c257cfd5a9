use Rattle.std.proofs.Common.{ℕ, nat_le, rules}
use Rattle.std.proofs.lemmas.List.Sorted.{IsPartitionPoint-from_clause, IsPartitionedBy-leb}
use Rattle.spd_index.proofs.rows.Rows.part_of.Goals as goal

pub returns : goal.returns
returns c =
    let starts = c.args.self.now.starts.items in
    let partitioned = rw c.deref.ensures.value at c.partition_point.ensures.partitioned in
    record {
      within = rw (← c.deref.ensures.value) c.partition_point.ensures.bound;
      between = IsPartitionPoint-from_clause (λ (start : ℕ). nat_le start c.args.address) starts c.partition_point.result partitioned
          (IsPartitionedBy-leb (λ (start : ℕ). start) starts c.args.address c.args.self.now.rising) (λ a r f' k. search rules);
    }

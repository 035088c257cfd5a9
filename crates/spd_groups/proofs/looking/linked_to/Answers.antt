use Rattle.std.proofs.Common.{List, ◌-◌, drop, length, nat_le, nat_lt, take, arith, rules}
use Rattle.std.proofs.lemmas.List.{length-drop, take_all}
use Rattle.std.proofs.lemmas.List.Sorted.{IsNonDecreasingBy-drop, IsNonDecreasingBy-take}
use Rattle.std.proofs.lemmas.List.Sorted.{IsPartitionPoint-from_clause, IsPartitionedBy-leb, IsPartitionedBy-ltb}
use Rattle.spd_cut.specs.declared.entry.Entry.{Entry}
use Rattle.spd_groups.proofs.Linked.{linked_in}
use Rattle.spd_groups.proofs.looking.linked_to.Goals as goal

pub returns : goal.returns
returns c =
    let es = c.args.list.now in
    let link = c.args.link in
    let first = c.partition_point-first.result in
    let count = c.partition_point-count.result in
    let rest : List Entry = take (length es - first) (drop first es) in
    let less = IsPartitionPoint-from_clause (λ (e : Entry). nat_lt e.link link) es first c.partition_point-first.ensures.partitioned
    (IsPartitionedBy-ltb (λ (e : Entry). e.link) es link c.requires) (λ a r q k. search rules) in
    let most = IsPartitionPoint-from_clause (λ (e : Entry). nat_le e.link link) rest count c.partition_point-count.ensures.partitioned
    (IsPartitionedBy-leb (λ (e : Entry). e.link) rest link
    (IsNonDecreasingBy-take (λ (e : Entry). e.link) (length es - first) (drop first es)
    (IsNonDecreasingBy-drop (λ (e : Entry). e.link) first es c.requires)))
    (λ a r q k. search rules) in
    linked_in es rest link first count (take_all (length es - first) (drop first es) (omega (arith, length-drop first es)))
    c.partition_point-first.ensures.bound c.partition_point-count.ensures.bound less most

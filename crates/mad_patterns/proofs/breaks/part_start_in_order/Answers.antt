use Rattle.std.proofs.Common.{rules, leb}
use Rattle.std.proofs.lemmas.List.Sorted.{IsPartitionPoint-from_clause, IsPartitionedBy-leb}
use Rattle.mad_patterns.proofs.BreakLemmas.{by_key, found_in_front}
use Rattle.mad_patterns.proofs.breaks.part_start_in_order.Goals as goal

pub last_start-requires-clause-within : goal.last_start-requires-clause-within
last_start-requires-clause-within c = c.partition_point-end.ensures.bound

pub last_start-requires-clause-found : goal.last_start-requires-clause-found
last_start-requires-clause-found c =
    let parted = IsPartitionedBy-leb (λ y. y) _ c.args.row (by_key _ c.requires) in
    let point = IsPartitionPoint-from_clause (λ y. leb y c.args.row) _ _ c.partition_point-end.ensures.partitioned parted (λ a r q k. search rules) in
    found_in_front c.args.row c.args.starts.now c.partition_point-end.result point c.partition_point-end.ensures.bound

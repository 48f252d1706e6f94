use Rattle.std.proofs.Common.{rules, leb, ◌∙◌}
use Rattle.std.proofs.lemmas.List.Sorted.{IsPartitionPoint-from_clause, IsPartitionedBy-leb}
use Rattle.mad_patterns.proofs.BreakLemmas.{by_key, end_by_halves}
use Rattle.mad_patterns.proofs.breaks.part_end_in_order.Goals as goal

pub returns : goal.returns
returns c =
    let parted = IsPartitionedBy-leb (λ y. y) _ c.args.row (by_key _ c.requires.order) in
    let point = IsPartitionPoint-from_clause (λ y. leb y c.args.row) _ _ c.partition_point-at.ensures.partitioned parted (λ a r q k. search rules) in
    c.start_or.ensures ∙ end_by_halves c.args.starts.now c.args.row c.partition_point-at.result point c.partition_point-at.ensures.bound

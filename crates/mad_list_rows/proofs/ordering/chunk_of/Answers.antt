use Rattle.std.proofs.Common.{◌+◌, ◌-◌, ◌/◌, ℕ, List, take, drop, true, arith, sym, subst}
use Rattle.std.specs.List.Sorted.{IsSortedBy}
use Rattle.mad_list_rows.specs.declared.list_rows.ListRow.{ListRow}
use Rattle.mad_list_rows.specs.Answers.{by_content}
use Rattle.mad_list_rows.specs.Chunks.{all_of}
use Rattle.mad_list_rows.proofs.ChunkLemmas.{halve_all}
use Rattle.mad_list_rows.proofs.OrderLemmas.{weak_by_content}
use Rattle.mad_list_rows.proofs.PlaceLemmas.{all_after, none_after}
use Rattle.mad_list_rows.proofs.ordering.chunk_of.Goals as goal

pub loop-low-preserved-then-comes_before_last : goal.loop-low-preserved-then-comes_before_last
loop-low-preserved-then-comes_before_last g c =
    let cs = c.args.chunks.now in
    let middle : ℕ = c.loop-low.low + (c.loop-low.high - c.loop-low.low) / 2 in (
      omega arith,
      omega arith,
      λ lt o up.
          let row : ListRow g.row.T.Denot = record { content = c.args.content.now; shown = true } in
          let halves = subst (λ (ys : List (ListRow g.row.T.Denot)). IsSortedBy (by_content lt) ys) (halve_all cs (middle + 1)) up in
          ((c.loop-low.invariant.2 lt o up).0, all_after (by_content lt) (weak_by_content lt o.weak) (all_of (take (middle + 1) cs)) (all_of (drop (middle + 1) cs)) row halves (sym (c.if-comes_before_last.ensures lt o))),
    )

pub loop-low-preserved : goal.loop-low-preserved
loop-low-preserved g c =
    let cs = c.args.chunks.now in
    let middle : ℕ = c.loop-low.low + (c.loop-low.high - c.loop-low.low) / 2 in (
      omega arith,
      omega arith,
      λ lt o up.
          let row : ListRow g.row.T.Denot = record { content = c.args.content.now; shown = true } in
          let halves = subst (λ (ys : List (ListRow g.row.T.Denot)). IsSortedBy (by_content lt) ys) (halve_all cs (middle + 1)) up in
          (none_after (by_content lt) (weak_by_content lt o.weak) (all_of (take (middle + 1) cs)) (all_of (drop (middle + 1) cs)) row halves (sym (c.if-comes_before_last.ensures lt o)), (c.loop-low.invariant.2 lt o up).1),
    )

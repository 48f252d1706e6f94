use Rattle.std.proofs.Common.{◌≡◌, ◌≤◌, ◌++◌, drop, length, vec_capacity}
use Rattle.mad_list_rows.specs.Chunks.{all_of}
use Rattle.mad_list_rows.proofs.chunks.join_chunks.Given as goal

abbrev pub invariant-loop-chunk : goal.invariant-loop-chunk
invariant-loop-chunk g l =
    (l.all.items ++ all_of (drop l.chunk-index l.chunk-items) ≡ all_of l.initial.chunk-items)
    × (length (all_of l.initial.chunk-items) ≤ vec_capacity l.all)

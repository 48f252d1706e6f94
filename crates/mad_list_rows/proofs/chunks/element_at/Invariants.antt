use Rattle.std.proofs.Common.{◌≡◌, ◌+◌, length, take}
use Rattle.mad_list_rows.specs.Chunks.{all_of}
use Rattle.mad_list_rows.proofs.chunks.element_at.Given as goal

abbrev pub invariant-loop-chunk : goal.invariant-loop-chunk
invariant-loop-chunk g l = l.fn.index ≡ length (all_of (take l.chunk-index l.chunks)) + l.left

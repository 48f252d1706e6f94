use Rattle.std.proofs.Common.{◌≡◌, map, take, drop}
use Rattle.mad_list_rows.specs.Chunks.{all_of}
use Rattle.mad_list_rows.specs.States.{shown_row}
use Rattle.mad_list_rows.proofs.filtering.show_chunks.Given as goal

abbrev pub invariant-loop-chunk : goal.invariant-loop-chunk
invariant-loop-chunk g l =
    (all_of (take l.chunk-index l.chunk-items) ≡ map shown_row (all_of (take l.chunk-index l.initial.chunk-items)))
    × (drop l.chunk-index l.chunk-items ≡ drop l.chunk-index l.initial.chunk-items)

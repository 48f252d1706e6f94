use Rattle.std.proofs.Common.{◌≡◌, Some, map, take, drop}
use Rattle.mad_list_rows.specs.Answers.{AreAnswered}
use Rattle.mad_list_rows.specs.Chunks.{all_of}
use Rattle.mad_list_rows.specs.States.{count_shown, row_content}
use Rattle.mad_list_rows.proofs.filtering.filter_chunks.Given as goal

abbrev pub invariant-loop-chunk : goal.invariant-loop-chunk
invariant-loop-chunk g l =
    (l.count ≡ count_shown (all_of (take l.chunk-index l.chunk-items)))
    × (map row_content (all_of (take l.chunk-index l.chunk-items)) ≡ map row_content (all_of (take l.chunk-index l.initial.chunk-items)))
    × (drop l.chunk-index l.chunk-items ≡ drop l.chunk-index l.initial.chunk-items)
    × AreAnswered g.F.RowFilter.answers (Some l.filter) (all_of (take l.chunk-index l.chunk-items))

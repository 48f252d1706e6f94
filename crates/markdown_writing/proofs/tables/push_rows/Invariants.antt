use Rattle.std.proofs.Common.{◌≡◌, ◌++◌, map, length}
use Rattle.std.specs.List.{flat_map}
use Rattle.markdown_writing.specs.Pages.{cells_of, ended}
use Rattle.markdown_writing.specs.Tables.{row_text}
use Rattle.markdown_writing.proofs.tables.push_rows.Given as goal

abbrev pub invariant-loop-rest : goal.invariant-loop-rest
invariant-loop-rest l = l.out.items ++ flat_map ended (map row_text (map (λ row. cells_of row.now) l.rest)) ≡ l.fn.out.items ++ flat_map ended (map row_text (map (λ row. cells_of row.now) l.rows))

abbrev pub decreases-loop-rest : goal.decreases-loop-rest
decreases-loop-rest l = length l.rest

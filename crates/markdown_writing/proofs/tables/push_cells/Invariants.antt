use Rattle.std.proofs.Common.{◌≡◌, ◌++◌, length}
use Rattle.std.specs.List.{flat_map}
use Rattle.markdown_writing.specs.Pages.{cells_of}
use Rattle.markdown_writing.specs.Tables.{cell_text}
use Rattle.markdown_writing.proofs.tables.push_cells.Given as goal

abbrev pub invariant-loop-rest : goal.invariant-loop-rest
invariant-loop-rest l = l.out.items ++ flat_map cell_text (cells_of l.rest) ≡ l.fn.out.items ++ flat_map cell_text (cells_of l.cells)

abbrev pub decreases-loop-rest : goal.decreases-loop-rest
decreases-loop-rest l = length l.rest

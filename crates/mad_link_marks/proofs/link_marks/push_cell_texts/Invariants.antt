use Rattle.std.proofs.Common.{◌≡◌, ◌++◌, map, drop}
use Rattle.std.specs.List.{flat_map}
use Rattle.mad_md.specs.Lines.{styled_runs}
use Rattle.mad_link_marks.specs.LinkMarks.{row_texts}
use Rattle.mad_link_marks.proofs.link_marks.push_cell_texts.Given as goal

abbrev pub invariant-loop-cell : goal.invariant-loop-cell
invariant-loop-cell l = map (λ t. t.now) l.texts.items ++ flat_map row_texts (map styled_runs (drop l.cell-index l.cells)) ≡ map (λ t. t.now) l.fn.texts.items ++ flat_map row_texts (map styled_runs l.cells)

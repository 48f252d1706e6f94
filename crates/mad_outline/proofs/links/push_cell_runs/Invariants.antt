use Rattle.std.proofs.Common.{◌≡◌, ◌++◌, map, drop}
use Rattle.std.specs.List.{flat_map}
use Rattle.mad_md.specs.Flagged.{run_of}
use Rattle.mad_md.specs.Lines.{styled_runs}
use Rattle.mad_outline.specs.LinkLists.{row_runs}
use Rattle.mad_outline.proofs.links.push_cell_runs.Given as goal

abbrev pub invariant-loop-cell : goal.invariant-loop-cell
invariant-loop-cell l = map run_of l.runs.items ++ flat_map row_runs (map styled_runs (drop l.cell-index l.cells)) ≡ map run_of l.fn.runs.items ++ flat_map row_runs (map styled_runs l.cells)

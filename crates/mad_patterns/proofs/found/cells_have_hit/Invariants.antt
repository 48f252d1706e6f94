use Rattle.std.proofs.Common.{◌≡◌, drop}
use Rattle.std.specs.List.{list_any}
use Rattle.regex.specs.Strings.{matcher_pattern, regex_pattern}
use Rattle.mad_patterns.specs.Searches.{cell_has_hit}
use Rattle.mad_patterns.proofs.found.cells_have_hit.Given as goal

-- what is found among the cells that are left
abbrev pub invariant-loop-cell : goal.invariant-loop-cell
invariant-loop-cell l = record {
  same : matcher_pattern l.matcher ≡ matcher_pattern l.fn.matcher;
  any : list_any (cell_has_hit (regex_pattern l.sought)) (drop l.cell-index l.cells) ≡ list_any (cell_has_hit (regex_pattern l.sought)) l.cells;
}

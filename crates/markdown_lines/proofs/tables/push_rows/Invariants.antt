use Rattle.std.proofs.Common.{◌≡◌, ◌++◌, map, length, false}
use Rattle.markdown_marks.specs.Remaining.{remaining}
use Rattle.markdown_lines.specs.LinksOf.{defined_of, link_of}
use Rattle.markdown_lines.specs.Shown.{shown}
use Rattle.markdown_lines.specs.TableNumbers.{lines_numbers}
use Rattle.markdown_lines.specs.Tables.{row_said, rows_links}
use Rattle.markdown_lines.proofs.tables.push_rows.Given as goal

abbrev pub invariant-loop-rest : goal.invariant-loop-rest
invariant-loop-rest l = record {
  lines : shown l.lines ++ map (row_said (defined_of l.definitions).labels false l.columns) (map remaining l.rest) ≡ shown l.fn.lines ++ map (row_said (defined_of l.definitions).labels false l.columns) (map remaining l.rows);
  links : map link_of l.links.items ++ rows_links (defined_of l.definitions) l.columns (length (shown l.lines)) (map remaining l.rest) ≡ map link_of l.fn.links.items ++ rows_links (defined_of l.definitions) l.columns (length (shown l.fn.lines)) (map remaining l.rows);
  numbers : l.numbers.items ++ lines_numbers (defined_of l.definitions) (length l.links.items) l.columns (map remaining l.rest) ≡ l.fn.numbers.items ++ lines_numbers (defined_of l.definitions) (length l.fn.links.items) l.columns (map remaining l.rows);
}

abbrev pub decreases-loop-rest : goal.decreases-loop-rest
decreases-loop-rest l = length l.rest

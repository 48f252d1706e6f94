use Rattle.std.proofs.Common.{◌≡◌, ◌+◌, ◌++◌, map, length, true, string_bytes}
use Rattle.std.specs.List.{list_all}
use Rattle.markdown_lines.specs.Lines.{cell_said, is_within}
use Rattle.markdown_lines.specs.Said.{said}
use Rattle.markdown_lines.specs.Shown.{shown}
use Rattle.markdown_lines.specs.LinksOf.{defined_of}
use Rattle.markdown_lines.specs.TableNumbers.{cells_numbers}
use Rattle.markdown_lines.specs.Tables.{cells, cells_addresses}
use Rattle.markdown_lines.proofs.lines.Lines.push_table_row.Given as goal

abbrev pub invariant-loop-more : goal.invariant-loop-more
invariant-loop-more l = record {
  same : shown l.self ≡ shown l.fn.self;
  within : list_all (is_within (length (said l.self.runs))) l.ranges.items ≡ true;
  so_far : map (cell_said (said l.self.runs)) l.ranges.items ++ cells (defined_of l.definitions).labels l.bold l.more l.rest ≡ cells (defined_of l.definitions).labels l.bold l.columns l.row;
  leads : map string_bytes l.addresses.items ++ cells_addresses (defined_of l.definitions) l.more l.rest ≡ cells_addresses (defined_of l.definitions) l.columns l.row;
  numbers : l.numbers.items ++ cells_numbers (defined_of l.definitions) l.bold (length l.addresses.items + l.before) l.more l.rest ≡ l.fn.numbers.items ++ cells_numbers (defined_of l.definitions) l.bold l.before l.columns l.row;
}

abbrev pub decreases-loop-more : goal.decreases-loop-more
decreases-loop-more l = l.more

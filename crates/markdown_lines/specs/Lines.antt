-- Lines of runs.
use Rattle.std.specs.Prelude.{ℕ, ◌+◌, Bool, true, nat_le, List, map}
use Rattle.std.specs.List.{list_all}
use Rattle.mad_md.specs.Flagged.{Run}
use Rattle.mad_md.specs.Lines.{StyledRuns, LineContent, normal, table_row, table_rule, horizontal_rule}
use Rattle.mad_md.specs.declared.composite.CompositeStyle.TheVariants.{Paragraph}
use Rattle.markdown_lines.specs.Said.{range_said}
use Rattle.markdown_lines.specs.declared.lines.MarkdownLine.{MarkdownLine}
use Rattle.markdown_lines.specs.declared.lines.MarkdownLine.TheVariants.{Normal, Row, Rule, HorizontalRule}
use Rattle.markdown_lines.specs.declared.places.RunRange.{RunRange}

-- what a cell says, of these runs
abbrev pub cell_said : List Run → RunRange → StyledRuns
cell_said all range = record { style = Paragraph; runs = range_said all range }

-- what a line says, of these runs
abbrev pub line_said : List Run → MarkdownLine → LineContent
line_said all (Normal style range) = normal (record { style = style; runs = range_said all range })
line_said all (Row cells) = table_row (map (cell_said all) cells.items)
line_said all (Rule alignments) = table_rule alignments.items
line_said all HorizontalRule = horizontal_rule

-- what lines say, of these runs
unfoldable pub lines_said : List Run → List MarkdownLine → List LineContent
lines_said all lines = map (line_said all) lines

-- the runs of this range are among so many
abbrev pub is_within : ℕ → RunRange → Bool
is_within count range = nat_le (range.start + range.count) count

-- the runs of a line are among so many
abbrev pub line_within : ℕ → MarkdownLine → Bool
line_within count (Normal style range) = is_within count range
line_within count (Row cells) = list_all (is_within count) cells.items
line_within count _ = true

-- so are the runs of each of these lines
unfoldable pub all_within : ℕ → List MarkdownLine → Bool
all_within count lines = list_all (line_within count) lines

-- the runs of a row
abbrev pub range_of : MarkdownLine → RunRange
range_of (Normal style range) = range
range_of _ = record { start = 0; count = 0 }

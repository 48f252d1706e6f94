use Rattle.std.proofs.Common.{◌≡◌, max, drop, map}
use Rattle.mad_md.specs.Lines.{content_of}
use Rattle.mad_blocks.specs.TextParts.{columns_among}
use Rattle.mad_blocks.proofs.table_columns.columns_among.Given as goal

abbrev pub invariant-loop-line : goal.invariant-loop-line
invariant-loop-line l = max l.count (columns_among (map content_of (drop l.line-index l.table))) ≡ columns_among (map content_of l.table)

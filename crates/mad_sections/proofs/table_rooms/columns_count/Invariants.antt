use Rattle.std.proofs.Common.{◌≡◌, max, drop, map}
use Rattle.mad_md.specs.Lines.{content_of}
use Rattle.mad_sections.specs.TableTexts.{columns_count}
use Rattle.mad_sections.proofs.table_rooms.columns_count.Given as goal

abbrev pub invariant-loop-line : goal.invariant-loop-line
invariant-loop-line l = max l.count (columns_count (map content_of (drop l.line-index l.lines))) ≡ columns_count (map content_of l.lines)

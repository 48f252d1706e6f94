use Rattle.std.proofs.Common.{◌≡◌, length, map}
use Rattle.mad_md.specs.Lines.{content_of}
use Rattle.mad_sections.specs.TableTexts.{rows_in}
use Rattle.mad_sections.proofs.table_rooms.has_row.Given as goal

abbrev pub invariant-loop-rest : goal.invariant-loop-rest
invariant-loop-rest l = rows_in (map content_of l.rest) ≡ rows_in (map content_of l.lines)

abbrev pub decreases-loop-rest : goal.decreases-loop-rest
decreases-loop-rest l = length l.rest

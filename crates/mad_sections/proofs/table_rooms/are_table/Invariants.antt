use Rattle.std.proofs.Common.{◌≡◌, length, map}
use Rattle.mad_md.specs.Lines.{content_of}
use Rattle.mad_sections.specs.TableTexts.{are_table}
use Rattle.mad_sections.proofs.table_rooms.are_table.Given as goal

abbrev pub invariant-loop-rest : goal.invariant-loop-rest
invariant-loop-rest l = are_table (map content_of l.rest) ≡ are_table (map content_of l.lines)

abbrev pub decreases-loop-rest : goal.decreases-loop-rest
decreases-loop-rest l = length l.rest

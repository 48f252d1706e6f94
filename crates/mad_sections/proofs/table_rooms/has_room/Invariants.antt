use Rattle.std.proofs.Common.{◌≡◌, map}
use Rattle.mad_md.specs.Lines.{content_of}
use Rattle.mad_sections.specs.TableTexts.{has_room, rows_in}
use Rattle.mad_sections.proofs.TableLemmas.{fit_from}
use Rattle.mad_sections.proofs.table_rooms.has_room.Given as goal

abbrev pub invariant-loop-column : goal.invariant-loop-column
invariant-loop-column l = fit_from l.rules l.count (rows_in (map content_of l.lines)) l.column l.left ≡ has_room l.rules l.fn.room (map content_of l.lines)

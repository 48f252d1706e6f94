use Rattle.std.proofs.Common.{◌≡◌, max, drop, map}
use Rattle.mad_md.specs.Lines.{content_of}
use Rattle.mad_sections.specs.CellWords.{capped}
use Rattle.mad_sections.proofs.TableLemmas.{longest_at}
use Rattle.mad_sections.proofs.table_rooms.longest_in.Given as goal

abbrev pub invariant-loop-line : goal.invariant-loop-line
invariant-loop-line l = max l.longest (capped (longest_at l.column (map content_of (drop l.line-index l.lines)))) ≡ capped (longest_at l.column (map content_of l.lines))

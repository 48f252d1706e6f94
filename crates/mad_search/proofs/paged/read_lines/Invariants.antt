use Rattle.std.proofs.Common.{◌≡◌, ◌++◌, false, length, map}
use Rattle.mad_md.specs.Cursor.{unread}
use Rattle.mad_md.specs.Lines.{content_of}
use Rattle.mad_md.specs.Reading.{unread_text}
use Rattle.mad_md.specs.Scan.{lines_of}
use Rattle.mad_search.proofs.paged.read_lines.Given as goal

-- the lines so far, and those that the cursor has yet to read, are those of the text
abbrev pub invariant-lines : goal.invariant-lines
invariant-lines l = map content_of l.lines.items ++ lines_of (unread l.cursor) ≡ lines_of (unread_text false l.source)

abbrev pub decreases-lines : goal.decreases-lines
decreases-lines l = length (unread l.cursor).text

use Rattle.std.proofs.Common.{◌≡◌, ◌++◌, map}
use Rattle.std.specs.Vec.Iter.{into_iter_items}
use Rattle.mad_md.specs.Lines.{content_of}
use Rattle.mad_sections.specs.Shown.{rows_said}
use Rattle.mad_sections.specs.TableTexts.{rows_in}
use Rattle.mad_sections.proofs.items.rows_in.Given as goal

abbrev pub invariant-loop-line : goal.invariant-loop-line
invariant-loop-line l = rows_said l.rows.items ++ rows_in (map content_of (into_iter_items l.line-iterator)) ≡ rows_in (map content_of l.fn.lines.items)

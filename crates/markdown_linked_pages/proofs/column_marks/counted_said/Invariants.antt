use Rattle.std.proofs.Common.{◌≡◌, ◌+◌, drop}
use Rattle.mad_md.specs.Flagged.{flagged_text}
use Rattle.mad_marks.specs.LineMarks.{has_mark}
use Rattle.mad_marks.specs.RowMarks.{counted}
use Rattle.markdown_linked_pages.proofs.column_marks.counted_said.Given as goal

abbrev pub invariant-loop-compound : goal.invariant-loop-compound
invariant-loop-compound l = l.count + counted (has_mark l.kind) (flagged_text (drop l.compound-index l.said.compounds.items)) ≡ counted (has_mark l.kind) (flagged_text l.said.compounds.items)

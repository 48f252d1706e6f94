-- What callers rely on.
use Rattle.std.specs.Prelude.{ℕ, Bool, List, Option}
use Rattle.mad_md.specs.Flagged.{Flags}
use Rattle.mad_md.specs.Lines.{LineContent}
use Rattle.mad_style.specs.declared.kinds.CompositeKind.{CompositeKind}
use Rattle.mad_format.specs.LineRules.{LineRules}
use Rattle.mad_format.specs.declared.line.FmtLine.{FmtLine}
use Rattle.mad_blocks.specs.Layouts.{IsLayoutAt}
use Rattle.mad_mark_runs.specs.declared.mark_runs.MarkRun.{MarkRun}
use Rattle.mad_marks.specs.LineMarks.{Follows, has_mark}
use Rattle.mad_marks.specs.RowNumbers.{AreNumbered}

-- there are numbers for these rows of these lines
abbrev pub HaveNumbers : (CompositeKind → Flags → Bool) → List MarkRun → ℕ → List FmtLine → List FmtLine → Type 0
HaveNumbers has runs n source rows = (numbers : List (List ℕ)) × AreNumbered has runs n source rows numbers

-- THE LAW: the rows of every layout, tables included, have numbers with which each of their composites has the marks that the text says
abbrev pub RowsHaveTheTextsMarks : Type 0
RowsHaveTheTextsMarks =
    (has : CompositeKind → Flags → Bool) (runs : List MarkRun) (skin : LineRules) (width : Option ℕ) (text : List LineContent) (rows : List FmtLine) (h : IsLayoutAt skin width text rows) → Follows has → HaveNumbers has runs 0 h.read rows

-- of code and links the rows that follow a line count what it counts
abbrev pub CodeAndLinksFollow : Type 0
CodeAndLinksFollow = Follows has_mark

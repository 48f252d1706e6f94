-- The laws of rows with marks, without links: what callers rely on.
use Rattle.std.specs.Prelude.{◌≡◌, ℕ, ◌<◌, Bool, List, [], Option, chars, length}
use Rattle.std.specs.List.{AllByRecursion}
use Rattle.std.specs.Str.{IsUtf8}
use Rattle.mad_md.specs.Flagged.{Flags}
use Rattle.mad_md.specs.declared.compound.Compound.{Compound}
use Rattle.mad_term.specs.declared.styles.ContentStyle.{ContentStyle}
use Rattle.mad_screen.specs.Glyph.{Look}
use Rattle.mad_style.specs.declared.kinds.CompositeKind.{CompositeKind}
use Rattle.mad_draw.specs.Pieces.{FillsRow}
use Rattle.mad_format.specs.declared.composite.FmtComposite.{FmtComposite}
use Rattle.mad_format.specs.declared.line.FmtLine.{FmtLine}
use Rattle.mad_rows.specs.Rows.{line_pieces}
use Rattle.mad_rows.specs.declared.row_skin.RowSkin.{RowSkin}
use Rattle.mad_mark_runs.specs.declared.mark_runs.MarkRun.{MarkRun}
use Rattle.mad_marks.specs.RowNumbers.{cells_of}
use Rattle.mad_marked_rows.specs.MarkedRows.{marked_line}
use Rattle.mad_marked_rows.specs.Told.{told_cells, TellsNothing}

-- the texts of a line are texts
abbrev pub AreTexts : FmtLine → Type 0
AreTexts line = AllByRecursion (λ (l : FmtComposite). AllByRecursion (λ k. IsUtf8 k.src.now) l.compounds.items) (cells_of line)

-- THE LAW: the cells that a plain terminal shows of a line with marks, by what `tell` tells of their pens, are those of the line without. It is to
-- tell nothing of what marks make of a style: nothing at all of pens, or, where marks set a foreground alone, all but the foreground.
abbrev pub MarksChangeNothingTold : Type 0
MarksChangeNothingTold =
    (tell : Look → Look) (paint : ℕ → ContentStyle → ContentStyle) (has : CompositeKind → Flags → Bool) (runs : List MarkRun) (skin : RowSkin) (outer : Option ℕ) (filled : Bool) (numbers : List ℕ) (line : FmtLine)
    → TellsNothing tell paint → AreTexts line → told_cells tell (marked_line paint has runs skin outer filled numbers line) ≡ told_cells tell (line_pieces skin outer filled line)

-- where the line fills a row, and shows cells of its own, it does so with marks
abbrev pub MarksFillAsNone : Type 0
MarksFillAsNone =
    (width : ℕ) (paint : ℕ → ContentStyle → ContentStyle) (has : CompositeKind → Flags → Bool) (runs : List MarkRun) (skin : RowSkin) (outer : Option ℕ) (filled : Bool) (numbers : List ℕ) (line : FmtLine)
    → AreTexts line → FillsRow width (line_pieces skin outer filled line) → FillsRow width (marked_line paint has runs skin outer filled numbers line)

-- a compound that says something
pub record IsWholeText (k : Compound) : Type 0 where
  pub utf8 : IsUtf8 k.src.now
  pub some : 0 < length (chars k.src.now)

-- so does each compound of a line
abbrev pub AreWholeTexts : FmtLine → Type 0
AreWholeTexts line = AllByRecursion (λ (l : FmtComposite). AllByRecursion IsWholeText l.compounds.items) (cells_of line)

-- without runs a line is as it is without marks, if no compound is empty (which writes the commands of its style)
abbrev pub NoRunsNoChange : Type 0
NoRunsNoChange =
    (paint : ℕ → ContentStyle → ContentStyle) (has : CompositeKind → Flags → Bool) (skin : RowSkin) (outer : Option ℕ) (filled : Bool) (numbers : List ℕ) (line : FmtLine)
    → ((style : ContentStyle) → paint 0 style ≡ style) → AreWholeTexts line → marked_line paint has [] skin outer filled numbers line ≡ line_pieces skin outer filled line

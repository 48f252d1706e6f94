-- Tones that set a foreground alone.
use Rattle.std.specs.Prelude.{◌≡◌, ℕ, Bool, List, Option, None}
use Rattle.std.specs.List.{AllByRecursion}
use Rattle.mad_md.specs.Flagged.{Flags}
use Rattle.mad_term.specs.Attributes.{attribute_bits}
use Rattle.mad_screen.specs.Glyph.{Look}
use Rattle.mad_style.specs.declared.compound_styles.CompoundStyle.{CompoundStyle}
use Rattle.mad_style.specs.declared.kinds.CompositeKind.{CompositeKind}
use Rattle.mad_format.specs.declared.line.FmtLine.{FmtLine}
use Rattle.mad_rows.specs.Rows.{line_pieces}
use Rattle.mad_rows.specs.declared.row_skin.RowSkin.{RowSkin}
use Rattle.mad_mark_runs.specs.declared.mark_runs.MarkRun.{MarkRun}
use Rattle.mad_marked_rows.specs.RowLaws.{AreTexts}
use Rattle.mad_marked_rows.specs.MarkedRows.{marked_line}
use Rattle.mad_marked_rows.specs.Told.{told_cells}
use Rattle.mad_marked_rows.specs.Paints.{paint_by}

-- the style sets no background and no attribute
pub record SetsForegroundAlone (s : CompoundStyle) : Type 0 where
  pub background : s.object_style.background_color ≡ None
  pub attributes : attribute_bits s.object_style.attributes ≡ 0

-- all of a pen but its foreground
abbrev pub but_foreground : Look → Look
but_foreground pen = record pen { fg = None }

-- THE LAW
abbrev pub TonesChangeForegroundsAlone : Type 0
TonesChangeForegroundsAlone =
    (styles : List CompoundStyle) (has : CompositeKind → Flags → Bool) (runs : List MarkRun) (skin : RowSkin) (outer : Option ℕ) (filled : Bool) (numbers : List ℕ) (line : FmtLine)
    → AllByRecursion SetsForegroundAlone styles → AreTexts line
    → told_cells but_foreground (marked_line (paint_by styles) has runs skin outer filled numbers line) ≡ told_cells but_foreground (line_pieces skin outer filled line)

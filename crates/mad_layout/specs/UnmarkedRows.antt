-- Unmarked lines: paragraphs that are written as they are.
use Rattle.std.specs.Prelude.{◌≡◌, ℕ, false, List, ◌++◌, Option, Some, Result, OnOk}
use Rattle.std.specs.List.{AllByRecursion}
use Rattle.mad_md.specs.Lines.{LineContent}
use Rattle.mad_style.specs.LineStyles.{margins_at}
use Rattle.mad_measure.specs.Completions.{left_completion}
use Rattle.mad_term.specs.Styles.{IsUnstyled}
use Rattle.mad_term.specs.Trace.{Trace}
use Rattle.mad_term.specs.declared.errors.Error.{Error}
use Rattle.mad_blocks.specs.Layouts.{IsLayoutAt}
use Rattle.mad_blocks.specs.LayoutParts.{wrap_width}
use Rattle.mad_rows.specs.Rows.{text_bytes}
use Rattle.mad_blocks.specs.TextParts.{is_code, is_table}
use Rattle.mad_layout.specs.WrittenParts.{HandsOn}
use Rattle.mad_rows.specs.declared.row_skin.RowSkin.{RowSkin}
use Rattle.mad_format.specs.declared.line.FmtLine.{FmtLine}
use Rattle.mad_rows.specs.RowStyles.{line_rules}

-- A paragraph of at most `most` columns is one row: aligned left, without margins and without style.
pub record IsUnmarkedWidth (skin : RowSkin) (width : Option ℕ) (most : ℕ) : Type 0 where
  pub wraps : wrap_width width ≡ Some most
  pub style : IsUnstyled skin.paragraph.compound_style.object_style
  pub left_margin : (margins_at skin.paragraph (Some most)).0 ≡ 0
  pub right_margin : (margins_at skin.paragraph (Some most)).1 ≡ 0
  pub left : (rest : ℕ) → left_completion skin.paragraph.align rest ≡ 0

-- a line that is a part by itself
abbrev pub IsAlone : LineContent → Type 0
IsAlone l = (is_code l ≡ false) × (is_table l ≡ false)

-- These bytes were handed on, and after them the lines of a layout of the first of these lines, each a part by itself; the others are left where that
-- succeeded.
pub record HandsOnUnmarked {T : Type 0} (skin : RowSkin) (width : Option ℕ) (before : List LineContent) (bytes : List ℕ) (old : Trace) (r : Result T Error) (new : Trace) (kept : List ℕ) (left : List LineContent) : Type 0 where
  pub taken : List LineContent
  pub later : List LineContent
  pub joins : before ≡ taken ++ later
  pub alone : AllByRecursion IsAlone taken
  pub lines : List FmtLine
  pub layout : IsLayoutAt (line_rules skin) width taken lines
  pub handed : HandsOn old (bytes ++ text_bytes skin width lines) r new kept
  pub rest : OnOk r (left ≡ later)

-- What a laid out text is, and a line of text that was read: their skin, and what they hold.
use Rattle.std.specs.Prelude.{◌≡◌, ℕ, List, Option}
use Rattle.mad_md.specs.Lines.{LineContent}
use Rattle.mad_blocks.specs.FittingLayouts.{IsFittingLayoutAt, IsFittingMarkdownLayout}
use Rattle.mad_blocks.specs.Layouts.{IsLayoutAt, IsMarkdownLayout}
use Rattle.mad_rows.specs.RowStyles.{line_rules}
use Rattle.mad_layout.specs.Inlines.{IsInlineOf, IsDisplayedAsWritten}
use Rattle.mad_layout.specs.RowSkins.{row_skin}
use Rattle.mad_layout.specs.declared.fmt_inline.FmtInline.{FmtInline}
use Rattle.mad_layout.specs.declared.fmt_text.FmtText.{FmtText}
use Rattle.mad_layout.specs.declared.skin.MadSkin.{MadSkin}

-- The lines of a text are laid out in this skin, in these columns, if there is a width. From three columns on they are a fitting layout,
-- the premise of what `draw_text` shows (`shown_layout`).
pub record IsTextLaidOut (dress : MadSkin) (columns : Option ℕ) (text : List LineContent) (made : FmtText) : Type 0 where
  pub skin : made.skin.now ≡ dress
  pub width : made.width ≡ columns
  pub lines : IsLayoutAt (line_rules (row_skin dress)) columns text made.lines.items
  pub fitting : IsFittingLayoutAt (line_rules (row_skin dress)) columns text made.lines.items

-- so are those of a Markdown text
pub record IsMarkdownLaidOut (dress : MadSkin) (columns : Option ℕ) (markdown : List ℕ) (made : FmtText) : Type 0 where
  pub skin : made.skin.now ≡ dress
  pub width : made.width ≡ columns
  pub lines : IsMarkdownLayout (line_rules (row_skin dress)) columns markdown made.lines.items
  pub fitting : IsFittingMarkdownLayout (line_rules (row_skin dress)) columns markdown made.lines.items

-- A line of text, its inline marks read in this skin. It is displayed by the bytes that are written of it.
pub record IsInlineRead (dress : MadSkin) (src : List ℕ) (made : FmtInline) : Type 0 where
  pub skin : made.skin.now ≡ dress
  pub composite : IsInlineOf (row_skin dress) src made.composite
  pub displayed : IsDisplayedAsWritten (row_skin dress) src made.composite

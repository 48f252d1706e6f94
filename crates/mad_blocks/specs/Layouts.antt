-- The layout of a text.
use Rattle.std.specs.Prelude.{ℕ, false, List, [], ◌∷◌, Option}
use Rattle.mad_md.specs.Lines.{LineContent}
use Rattle.mad_md.specs.Reading.{IsRead, unread_text}
use Rattle.mad_format.specs.CompositeWraps.{IsCompositeWrap}
use Rattle.mad_format.specs.FmtLines.{IsLineRead}
use Rattle.mad_blocks.specs.LayoutParts.{parts_of, table_width, wrap_width, ArePartsAt}
use Rattle.mad_format.specs.WrappedLines.{Wrap}
use Rattle.mad_format.specs.LineRules.{LineRules}
use Rattle.mad_format.specs.declared.line.FmtLine.{FmtLine}

-- the lines are those of a text, measured, and not yet laid out
abbrev pub AreRead : LineRules → List LineContent → List FmtLine → Type 0
AreRead skin [] [] = Unit {0}
AreRead skin (c ∷ cs) (l ∷ ls) = IsLineRead skin c l × AreRead skin cs ls
AreRead skin _ _ = ⊥

-- The lines are a layout of the text by some kind of wrap, part by part, where tables have this width, and other lines that one, if any.
pub record IsLayoutBy (wraps : Wrap) (skin : LineRules) (tables : ℕ) (width : Option ℕ) (text : List LineContent) (lines : List FmtLine) : Type 0 where
  pub read : List FmtLine
  pub reads : AreRead skin text read
  pub laid : ArePartsAt wraps skin tables width (parts_of read) lines

-- The lines are a layout of the text at a width, if there is one; each line's wrap is one with the fewest lines. At a width under three, or
-- without one, nothing is wrapped.
abbrev pub IsLayoutAt : LineRules → Option ℕ → List LineContent → List FmtLine → Type 0
IsLayoutAt skin width text lines = IsLayoutBy IsCompositeWrap skin (table_width width) (wrap_width width) text lines

-- the lines are a layout of a Markdown text at a width, if there is one
abbrev pub IsMarkdownLayout : LineRules → Option ℕ → List ℕ → List FmtLine → Type 0
IsMarkdownLayout skin width markdown lines = (text : List LineContent) × IsRead (unread_text false markdown) text × IsLayoutAt skin width text lines

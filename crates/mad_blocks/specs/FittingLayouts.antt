-- Layouts, the count of their lines apart.
use Rattle.std.specs.Prelude.{ℕ, ◌≤◌, List, map, Option, Some, None, false, ⊤}
use Rattle.std.specs.List.{AllByRecursion}
use Rattle.mad_md.specs.Flagged.{flagged_text}
use Rattle.mad_md.specs.Lines.{LineContent}
use Rattle.mad_md.specs.Reading.{IsRead, unread_text}
use Rattle.mad_measure.specs.declared.tokens.Token.{Token}
use Rattle.mad_wrap.specs.Keeps.{Keeps}
use Rattle.mad_wrap.specs.LeastWrap.{AreTokensIn}
use Rattle.mad_wrap.specs.WrapLines.{HasRoom, LinesFit, IsMadeOf}
use Rattle.mad_format.specs.CompositeWraps.{line_compounds, AreLinesOf}
use Rattle.mad_format.specs.Indents.{room_of}
use Rattle.mad_blocks.specs.Layouts.{IsLayoutBy}
use Rattle.mad_format.specs.Wraps.{text_of}
use Rattle.mad_format.specs.LineRules.{LineRules}
use Rattle.mad_format.specs.declared.composite.FmtComposite.{FmtComposite}
use Rattle.mad_format.specs.declared.line.FmtLine.{FmtLine}

-- The lines are the composite wrapped at a width, be they the fewest or not: they keep its text, they fit where there is room, and
-- each compound is one of the source or a token of one.
pub record IsFittingWrap (skin : LineRules) (width : ℕ) (source : FmtComposite) (lines : List FmtComposite) : Type 0 where
  pub keeps : Keeps (text_of source) (map flagged_text (line_compounds lines))
  pub fits : HasRoom (room_of skin source.kind width) (text_of source) → LinesFit (room_of skin source.kind width).first (room_of skin source.kind width) (map flagged_text (line_compounds lines))
  pub parts : (ts : List Token) → AreTokensIn (room_of skin source.kind width) source.compounds.items ts → AllByRecursion (IsMadeOf source.compounds.items ts) (line_compounds lines)
  pub made : AreLinesOf skin source lines

-- the lines are a layout of the text at a width, the count of lines apart: each composite is kept or wrapped so
abbrev pub IsFittingLayout : LineRules → ℕ → List LineContent → List FmtLine → Type 0
IsFittingLayout skin width text lines = IsLayoutBy IsFittingWrap skin width (Some width) text lines

-- the same at a width of three columns or more; of a lesser one, or of none, nothing is said
abbrev pub IsFittingLayoutAt : LineRules → Option ℕ → List LineContent → List FmtLine → Type 0
IsFittingLayoutAt skin None text lines = ⊤
IsFittingLayoutAt skin (Some width) text lines = 3 ≤ width → IsFittingLayout skin width text lines

-- the lines are such a layout of a Markdown text at a width, if there is one
abbrev pub IsFittingMarkdownLayout : LineRules → Option ℕ → List ℕ → List FmtLine → Type 0
IsFittingMarkdownLayout skin width markdown lines = (text : List LineContent) × IsRead (unread_text false markdown) text × IsFittingLayoutAt skin width text lines

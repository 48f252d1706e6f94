-- Texts whose rows fit a terminal, whatever they say.
use Rattle.std.specs.Prelude.{◌≡◌, ℕ, ◌+◌, ◌-◌, ◌^◌, ◌<◌, ◌≤◌, List, length, Some}
use Rattle.mad_draw.specs.Pieces.{IsColumnChar}
use Rattle.mad_live.specs.LiveRows.{AreBlank, Shows}
use Rattle.mad_live.specs.Papers.{Paper, Reads, blank_line}
use Rattle.mad_page_skin.specs.PageSkins.{page_marks, page_row_skin}
use Rattle.mad_page_skin.specs.declared.page_skin.PageSkin.{PageSkin}
use Rattle.mad_page_skin_laws.specs.PageMarks.{AreMarksShown}
use Rattle.mad_rows.specs.RowStyles.{AreKnownStyles}
use Rattle.mad_stream.specs.LiveTexts.{joined_pieces}
use Rattle.mad_term.specs.Trace.{Trace}
use Rattle.markdown_live.specs.LiveMarkdowns.{FitsSoFar, ShowsPieces}
use Rattle.markdown_live.specs.Sources.{FitsWhole}
use Rattle.markdown_stream.specs.Streams.{IsStreamed}

-- Each mark of a skin takes a column, and so does the sign of pictures; the numbers of its colors are bytes, as in every style that a program holds.
pub record IsShownSkin (skin : PageSkin) : Type 0 where
  pub marks : AreMarksShown (page_row_skin skin)
  pub sign : IsColumnChar (page_marks skin).sign
  pub known : AreKnownStyles (page_row_skin skin)

-- a width from three columns to those of the terminal that scrolls: one less than a real one has
pub record HasRoom (columns width : ℕ) : Type 0 where
  pub wide : 3 ≤ width
  pub narrower : width ≤ columns
  pub small : width < 2 ^ 64 - 1

-- The rows of each text fit in such a skin and at such a width: as far as it has come, and as a whole.
abbrev pub TextsFit : Type 0
TextsFit =
    (columns width : ℕ) (skin : PageSkin) → IsShownSkin skin → HasRoom columns width → (text : List ℕ)
    → FitsSoFar columns skin (Some width) text × FitsWhole skin (Some width) text columns

-- So nothing is asked of a text that is given in pieces: what went out leads every terminal of such columns to one that has all rows of a page of the text, from the
-- first on, and the cursor below them.
abbrev pub PiecesAreShown : Type 0
PiecesAreShown =
    (columns width height : ℕ) (skin : PageSkin) (pieces : List (List ℕ)) (before now : Trace) → IsShownSkin skin → HasRoom columns width
    → (h : ShowsPieces skin (Some width) height pieces before now) (p : Paper) → p.line ≡ blank_line columns → AreBlank columns p.below → height ≤ p.reach + length p.below + 1
    → (q : Paper) × (rows : List ℕ) × Reads p h.bytes q × IsStreamed skin (Some width) (joined_pieces pieces) rows × Shows columns p.above rows q

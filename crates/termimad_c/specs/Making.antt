-- The bytes that a call makes of a text, in the skin of a word.
use Rattle.std.specs.Prelude.{◌≡◌, ℕ, ◌≤◌, ◌<◌, ◌^◌, Bool, List, Some, None, false, Ok, IsUtf8, chars, encode_utf8_all, length}
use Rattle.std.specs.Borrow.{Bor}
use Rattle.termimad.specs.Fitting.{IsCompositeFitted}
use Rattle.termimad.specs.Inlines.{IsInlineOf}
use Rattle.termimad.specs.Layouts.{IsMarkdownLayout}
use Rattle.termimad.specs.StreamedParts.{WritesFront}
use Rattle.termimad.specs.Pieces.{pieces_bytes}
use Rattle.termimad.specs.Printable.{printable_text}
use Rattle.termimad.specs.RowSkins.{row_skin}
use Rattle.termimad.specs.RowStyles.{line_rules}
use Rattle.termimad.specs.Rows.{composite_pieces, margins_of}
use Rattle.termimad.specs.Trace.{Trace}
use Rattle.termimad.specs.declared.Alignment.{Alignment}
use Rattle.termimad.specs.declared.Area.{Area}
use Rattle.termimad.specs.declared.FmtComposite.{FmtComposite}
use Rattle.termimad.specs.declared.FmtLine.{FmtLine}
use Rattle.termimad.specs.declared.MadSkin.{MadSkin}
use Rattle.mad_page_skin.specs.PageSkins.{page_skin_of}
use Rattle.mad_page_skin.specs.declared.page_skin.PageSkin.{PageSkin}
use Rattle.termimad_run.specs.ProgramRuns.{WritesCall, ShowsCall}
use Rattle.termimad_run.specs.declared.call.Command.{Command}
use Rattle.termimad_run.specs.declared.call.Command.TheVariants.{InArea, AtWidth, AsMarkdown, AsCode}
use Rattle.mad_frames.specs.Gathered.{untouched}
use Rattle.termimad_c.specs.Inputs.{IsTextSoFar, IsPageSkinOf, IsSkinOf, IsAreaOf, alignment_number}

-- They are all that the program writes of this text in the skin of this word, and what a plain terminal shows of them is what the
-- program's bytes show.
pub record IsWritten (text word : List ℕ) (command : Command) (whole : List ℕ) : Type 0 where
  pub utf8 : IsUtf8 text
  pub skin : MadSkin
  pub given : IsSkinOf word skin
  pub last : Trace
  pub writes : WritesCall (page_skin_of skin) command text untouched (Ok (tt {0})) last
  pub shown : ShowsCall (page_skin_of skin) command text untouched last
  pub whole_is : last.bytes ≡ Some whole

-- so it writes the text in the area of these numbers
abbrev pub IsAreaWritten : List ℕ → List ℕ → ℕ → ℕ → ℕ → ℕ → List ℕ → Type 0
IsAreaWritten text word left top width height whole = (area : Area) × IsAreaOf left top width height area × IsWritten text word (InArea area) whole

-- so it writes the text at a width
abbrev pub IsTextWritten : List ℕ → List ℕ → ℕ → List ℕ → Type 0
IsTextWritten text word width whole = (width < 2 ^ 16) × IsWritten text word (AtWidth width) whole

-- They are all that the program writes of this text as a page in the skin of this word.
pub record IsPageWritten (text word : List ℕ) (command : Command) (whole : List ℕ) : Type 0 where
  pub utf8 : IsUtf8 text
  pub skin : PageSkin
  pub given : IsPageSkinOf word skin
  pub last : Trace
  pub writes : WritesCall skin command text untouched (Ok (tt {0})) last
  pub whole_is : last.bytes ≡ Some whole

-- so it writes what the text is as Markdown that people write
abbrev pub IsMarkdownWritten : List ℕ → List ℕ → ℕ → List ℕ → Type 0
IsMarkdownWritten text word width whole = (width < 2 ^ 16) × IsPageWritten text word (AsMarkdown width) whole

-- so it writes what the text is as code in the language of this word, which is a text
abbrev pub IsCodeWritten : List ℕ → List ℕ → List ℕ → ℕ → List ℕ → Type 0
IsCodeWritten text language word width whole =
    (width < 2 ^ 16) × IsUtf8 language × (given : Bor (List ℕ)) × (given.now ≡ language) × IsPageWritten text word (AsCode given width) whole

-- The text has a layout of so many lines at this width, in the skin of this word. Each is one row.
pub record IsRowCount (text word : List ℕ) (width count : ℕ) : Type 0 where
  pub utf8 : IsUtf8 text
  pub skin : MadSkin
  pub given : IsSkinOf word skin
  pub lines : List FmtLine
  pub layout : IsMarkdownLayout (line_rules (row_skin skin)) (Some width) text lines
  pub count_is : count ≡ length lines

-- They are a line of text with its inline marks, in the skin of this word: as it was read, where it fits the width, and else fitted
-- to it by the alignment of this number.
pub record IsFittedLine (text word : List ℕ) (width align : ℕ) (whole : List ℕ) : Type 0 where
  pub utf8 : IsUtf8 text
  pub skin : MadSkin
  pub given : IsSkinOf word skin
  pub alignment : Alignment
  pub aligned : alignment_number alignment ≡ align
  pub line : FmtComposite
  pub read : IsInlineOf (row_skin skin) text line
  pub fitted : FmtComposite
  pub fits : line.visible_length ≤ width → fitted ≡ line
  pub cut : width < line.visible_length → IsCompositeFitted (line_rules (row_skin skin)) alignment width line fitted
  pub whole_is : whole ≡ pieces_bytes (composite_pieces (row_skin skin) None (margins_of (row_skin skin) None fitted) false fitted)

-- they are the text, made printable
pub record IsMadePrintable (text whole : List ℕ) : Type 0 where
  pub utf8 : IsUtf8 text
  pub shown : whole ≡ encode_utf8_all (printable_text (chars text))

-- They are the rows of the complete parts of a text that goes on, or of all of one that ends there, in the skin of this word. So many bytes of the text are
-- these, before which a fence is open or not, and after which it is or not.
pub record ArePartsOf (text word : List ℕ) (width : ℕ) (fenced is_last : Bool) (rows : List ℕ) (used : ℕ) (fenced_then : Bool) : Type 0 where
  pub narrow : width < 2 ^ 16
  pub skin : MadSkin
  pub given : IsSkinOf word skin
  pub read : List ℕ
  pub so_far : IsTextSoFar is_last text read
  pub last : Trace
  pub writes : WritesFront (row_skin skin) (Some width) read fenced is_last untouched (Ok (used, fenced_then)) last
  pub rows_are : last.bytes ≡ Some rows

-- Cells whose lines are made of whole words.
use Rattle.std.specs.Prelude.{◌≡◌, ℕ, ◌≤◌, true, List, [], ◌∷◌, ◌++◌, map, if◌then◌else◌}
use Rattle.std.specs.List.{AllByRecursion}
use Rattle.mad_md.specs.Lines.{StyledRuns, LineContent}
use Rattle.mad_measure.specs.declared.tokens.Token.{Token}
use Rattle.mad_style.specs.Kinds.{kind_of}
use Rattle.mad_style.specs.declared.kinds.CompositeKind.TheVariants.{Paragraph}
use Rattle.mad_wrap.specs.LeastWords.{ArePieceFit}
use Rattle.mad_wrap.specs.LeastWrap.{AreTokensIn}
use Rattle.mad_wrap.specs.Words.{Piece, alone, together}
use Rattle.mad_wrap.specs.WrapLines.{runs_of}
use Rattle.mad_format.specs.CompositeWraps.{IsCompositeWrap, line_compounds}
use Rattle.mad_format.specs.Indents.{room_of}
use Rattle.mad_format.specs.LineRules.{LineRules}
use Rattle.mad_format.specs.WrappedLines.{Wrap}
use Rattle.mad_format.specs.declared.line.FmtLine.{FmtLine}
use Rattle.mad_format.specs.Wraps.{text_of}
use Rattle.mad_format.specs.declared.composite.FmtComposite.{FmtComposite}
use Rattle.mad_sections.specs.CellWords.{longest_word}
use Rattle.mad_blocks.specs.Tables.{centered, IsCellLaidOut, AreTableLinesBy}
use Rattle.mad_sections.specs.TableTexts.{rows_in}
use Rattle.mad_pages.specs.WholeTables.{IsWholeTable}

-- the words of a word that has begun, and of the tokens that come: each whole, and between them each blank token
abbrev pub words_after : List Token → List Token → List Piece
words_after word [] = together word
words_after word (t ∷ ts) = if t.blank then together word ++ (alone t ∷ words_after [] ts) else words_after (word ++ t ∷ []) ts

-- the words of tokens
abbrev pub words_of : List Token → List Piece
words_of ts = words_after [] ts

-- a wrap whose lines are the first fit of whole words
abbrev pub IsWholeWrap : Wrap
IsWholeWrap rules width source lines = IsCompositeWrap rules width source lines
    × ((ts : List Token) → AreTokensIn (room_of rules source.kind width) source.compounds.items ts → ArePieceFit (room_of rules source.kind width) (words_of ts) (map runs_of (line_compounds lines)))

-- Where words stay whole, no word of a cell is parted in a column that is as wide as its longest word, or wider: it stays on one line, or is wrapped so.
abbrev pub CellsKeepWords : Type 0
CellsKeepWords = (rules : LineRules) (width : ℕ) (cell : FmtComposite) (lines : List FmtComposite) → rules.whole_words ≡ true → cell.kind ≡ Paragraph → longest_word (text_of cell) ≤ width
    → IsCellLaidOut IsCompositeWrap rules width cell lines → IsCellLaidOut IsWholeWrap rules width cell lines

-- the cells of a table are paragraphs
abbrev pub ArePlainCells : List LineContent → Type 0
ArePlainCells table = AllByRecursion (λ (cells : List StyledRuns). AllByRecursion (λ (cell : StyledRuns). kind_of cell.style ≡ Paragraph) cells) (rows_in table)

-- So no word of a whole table is parted.
abbrev pub TablesKeepWords : Type 0
TablesKeepWords = (rules : LineRules) (room : ℕ) (table : List LineContent) (lines : List FmtLine) → rules.whole_words ≡ true → ArePlainCells table → (whole : IsWholeTable rules room table lines)
    → AreTableLinesBy IsWholeWrap rules whole.widths (centered whole.widths) true whole.read lines

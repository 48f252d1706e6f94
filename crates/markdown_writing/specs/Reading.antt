-- What is read of a page that was written: its blocks.
use Rattle.std.specs.Prelude.{◌≡◌, ℕ, ◌<◌, ◌≤◌, ◌==◌, Bool, true, false, List, [], ◌∷◌, ◌++◌, length, map, max, zero, suc}
use Rattle.std.specs.List.{list_all, list_any}
use Rattle.mad_md.specs.declared.alignment.Alignment.{Alignment}
use Rattle.markdown_marks.specs.Remaining.{whole}
use Rattle.markdown_marks.specs.Tables.{cell_count, row_of}
use Rattle.markdown_cells.specs.Cells.{after_cell, alignments, cell_of, unbarred}
use Rattle.markdown_blocks.specs.declared.containers.Container.TheVariants.{Quote, Item}
use Rattle.markdown_leaves.specs.Parts.{PartContent, begins, ends, block}
use Rattle.markdown_leaves.specs.Told.{parts_of}
use Rattle.markdown_leaves.specs.declared.parts.Kind.{Kind}
use Rattle.markdown_leaves.specs.declared.parts.Kind.TheVariants.{Paragraph, Heading, Fenced, Rule, Table}
use Rattle.markdown_laws.specs.Fences.{trimmed}
use Rattle.markdown_laws.specs.Quotes.{spelled}
use Rattle.markdown_writing.specs.Phrases.{Phrase, line_text}
use Rattle.markdown_writing.specs.Pages.{Page, Written, code, heading, items, markdown_of, no_more, paragraph, quotes, shows, stars, table, thematic_break}
use Rattle.markdown_writing.specs.Tables.{delimiters, row_text, table_lines}
use Rattle.markdown_writing.specs.Writable.{AreRows, IsLine, is_line}

-- a leaf that has these lines, behind an empty line or not
abbrev pub leaf_of : Kind → Bool → List (List ℕ) → PartContent
leaf_of kind apart lines = block (record { kind = kind; apart = apart; lines = map whole lines })

-- A heading has its line of phrases, and a paragraph has its lines. Code has its lines below the name of its language. A table of so many columns has its lines.
abbrev pub part_of : Bool → Written → PartContent
part_of apart (heading level phrases) = leaf_of (Heading level) apart (line_text phrases ∷ [])
part_of apart (paragraph lines) = leaf_of Paragraph apart (map line_text lines)
part_of apart (code language lines) = leaf_of Fenced apart (trimmed language ∷ lines)
part_of apart thematic_break = leaf_of Rule apart (stars ∷ [])
part_of apart (table rule head rows) = leaf_of (Table (length rule)) apart (table_lines rule head rows)

-- All blocks, each behind an empty line but the first. A quote is around its own, and so is an item, whose content is behind two columns.
abbrev pub parts_from : Bool → Page → List PartContent
parts_from apart no_more = []
parts_from apart (shows b after) = part_of apart b ∷ parts_from true after
parts_from apart (quotes inner after) = begins Quote apart ∷ (parts_from false inner ++ ends ∷ parts_from true after)
parts_from apart (items inner after) = begins (Item 45 0 2) apart ∷ (parts_from false inner ++ ends ∷ parts_from true after)

-- each is a line
abbrev pub AreLines : List (List Phrase) → Type 0
AreLines [] = Unit {0}
AreLines (line ∷ lines) = IsLine line × AreLines lines

-- A heading has a level from 1 to 6 and a line, and a paragraph has lines. Code has lines without tabs, and no backquote is in the name of its language.
-- A table has a column, and as many cells in its head and in each row as it has columns.
abbrev pub IsWritable : Written → Type 0
IsWritable (heading level phrases) = (0 < level) × (level ≤ 6) × IsLine phrases
IsWritable (paragraph lines) = ((length lines == 0) ≡ false) × AreLines lines
IsWritable (code language lines) = (list_any (λ b. b == 96) language ≡ false) × (is_line language ≡ true) × (list_all is_line lines ≡ true)
IsWritable thematic_break = Unit {0}
IsWritable (table rule head rows) = ((length rule == 0) ≡ false) × AreRows (length rule) (head ∷ rows)

-- a block is there
abbrev pub has_block : Page → Bool
has_block no_more = false
has_block _ = true

-- Each block is writable, and a quote and an item hold some.
abbrev pub AreWritable : Page → Type 0
AreWritable no_more = Unit {0}
AreWritable (shows b after) = IsWritable b × AreWritable after
AreWritable (quotes inner after) = (has_block inner ≡ true) × AreWritable inner × AreWritable after
AreWritable (items inner after) = (has_block inner ≡ true) × AreWritable inner × AreWritable after

-- how many quotes and items stand one in the other
abbrev pub depth : Page → ℕ
depth no_more = 0
depth (shows b after) = depth after
depth (quotes inner after) = max (suc (depth inner)) (depth after)
depth (items inner after) = max (suc (depth inner)) (depth after)

-- A page that is written as Markdown is read as its blocks, one after the other, and nothing else is. At most 64 quotes and items stand one in the other.
abbrev pub PageIsReadBack : Type 0
PageIsReadBack = (page : Page) → AreWritable page → depth page ≤ 64 → map spelled (parts_of (markdown_of page)) ≡ parts_from false page

-- ---- tables

-- the texts of so many cells of a row, as they are read: without the blanks at their ends, and without the backslashes before bars
abbrev pub texts_read : ℕ → List ℕ → List (List ℕ)
texts_read zero row = []
texts_read (suc columns) row = unbarred [] false (cell_of row) ∷ texts_read columns (after_cell row)

-- a line is read as a row of these cells, and no others
pub record IsReadAs (line : List ℕ) (cells : List (List Phrase)) : Type 0 where
  pub count : cell_count line ≡ length cells
  pub texts : texts_read (length cells) (row_of line) ≡ map line_text cells

-- each row is read as it is
abbrev pub AreReadBack : List (List (List Phrase)) → Type 0
AreReadBack [] = Unit {0}
AreReadBack (row ∷ rows) = IsReadAs (row_text row) row × AreReadBack rows

-- Of the lines of a table that was written the first is read as its head, the second as its alignments, and each other as a row of it.
abbrev pub TablesAreReadBack : Type 0
TablesAreReadBack =
    (rule : List Alignment) (head : List (List Phrase)) (rows : List (List (List Phrase))) → IsWritable (table rule head rows)
    → (alignments (length rule) (row_of (delimiters rule)) ≡ rule) × AreReadBack (head ∷ rows)

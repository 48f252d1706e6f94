-- A page as Markdown: its blocks, with an empty line between them.
use Rattle.std.specs.Prelude.{ℕ, Bool, true, false, List, [], ◌∷◌, ◌++◌, map, flat_map, replicate, max, if◌then◌else◌}
use Rattle.std.specs.Borrow.{Bor}
use Rattle.mad_md.specs.declared.alignment.Alignment.{Alignment}
use Rattle.markdown_marks.specs.Bytes.{count_in_front, without_blanks}
use Rattle.markdown_writing.specs.declared.blocks.PagePhrase.{PagePhrase}
use Rattle.markdown_writing.specs.declared.blocks.PageBlock.{PageBlock, Heading, Paragraph, Code, Break, Table, Quote', Item', Row_of-PageBlock, end_of-PageBlock, more_of-PageBlock}
use Rattle.markdown_writing.specs.Phrases.{Phrase, phrase_of, fence, line_text}
use Rattle.markdown_writing.specs.Fronts.{itemized, quoted}
use Rattle.markdown_writing.specs.Tables.{table_lines}

-- A block that holds no others: a heading of a level, with its phrases; a paragraph's lines, each with its phrases; code in a language, with its lines; a thematic break; a table.
-- A table has an alignment for each column, the cells of its head, and rows of cells, each with its phrases.
pub data Written : Type 0 where
  heading : ℕ → List Phrase → Written
  paragraph : List (List Phrase) → Written
  code : List ℕ → List (List ℕ) → Written
  thematic_break : Written
  table : List Alignment → List (List Phrase) → List (List (List Phrase)) → Written

-- Blocks one below the other: each is shown, or is a quote or an item of a list around others.
pub data Page : Type 0 where
  no_more : Page
  shows : Written → Page → Page
  quotes : (inner after : Page) → Page
  items : (inner after : Page) → Page

-- the phrases of each cell, or of each line
abbrev pub cells_of : List (Bor (List PagePhrase)) → List (List Phrase)
cells_of cells = map (λ cell. map phrase_of cell.now) cells

-- what the blocks of the code say, whatever the addresses of their texts
abbrev mutual
  -- a block above others
  pub above : PageBlock → Page → Page
  above (Heading level phrases) after = shows (heading level (map phrase_of phrases.now)) after
  above (Paragraph lines) after = shows (paragraph (map (λ line. map phrase_of line.now) lines.now)) after
  above (Code language lines) after = shows (code language.now (map (λ line. line.now) lines.now)) after
  above Break after = shows thematic_break after
  above (Table rule head rows) after = shows (table rule.now (cells_of head.now) (map (λ row. cells_of row.now) rows.now)) after
  above (Quote' place shape blocks) after = quotes (held_page blocks) after
  above (Item' place shape blocks) after = items (held_page blocks) after

  -- the blocks that a quote or an item holds
  pub held_page : {n : _} → Row_of-PageBlock n → Page
  held_page end_of-PageBlock = no_more
  held_page (more_of-PageBlock block blocks) = above block (held_page blocks)

-- the blocks of a page
abbrev pub page_of : List PageBlock → Page
page_of [] = no_more
page_of (block ∷ blocks) = above block (page_of blocks)

-- a line, and its end
abbrev pub ended : List ℕ → List ℕ
ended line = line ++ 10 ∷ []

-- how many backquotes a line has in front, behind its blanks
abbrev pub ticks_in : List ℕ → ℕ
ticks_in line = count_in_front 96 (without_blanks line)

-- the most that a line has, or so many if none has more
abbrev pub longest_from : ℕ → List (List ℕ) → ℕ
longest_from most [] = most
longest_from most (line ∷ lines) = longest_from (max most (ticks_in line)) lines

-- the most that a line of code has, and two at least
abbrev pub longest : List (List ℕ) → ℕ
longest lines = longest_from 2 lines

-- a thematic break of three stars
abbrev pub stars : List ℕ
stars = 42 ∷ 42 ∷ 42 ∷ []

-- the lines of a block
abbrev pub block_lines : Written → List (List ℕ)
block_lines (heading level phrases) = (replicate level 35 ++ 32 ∷ line_text phrases) ∷ []
block_lines (paragraph lines) = map line_text lines
block_lines (code language lines) = (fence (longest lines) ++ language) ∷ (lines ++ fence (longest lines) ∷ [])
block_lines thematic_break = stars ∷ []
block_lines (table rule head rows) = table_lines rule head rows

-- the text of a block
abbrev pub block_text : Written → List ℕ
block_text block = flat_map ended (block_lines block)

-- an empty line, where blocks stand before
abbrev pub gap : Bool → List ℕ
gap some = if some then 10 ∷ [] else []

-- blocks, with an empty line before each but the first
abbrev pub markdown_from : Bool → Page → List ℕ
markdown_from some no_more = []
markdown_from some (shows block after) = gap some ++ (block_text block ++ markdown_from true after)
markdown_from some (quotes inner after) = gap some ++ (quoted (markdown_from false inner) ++ markdown_from true after)
markdown_from some (items inner after) = gap some ++ (itemized (markdown_from false inner) ++ markdown_from true after)

-- a page as Markdown
abbrev pub markdown_of : Page → List ℕ
markdown_of page = markdown_from false page

-- the text of the first block
abbrev pub first_block : Page → List ℕ
first_block no_more = []
first_block (shows block after) = block_text block
first_block (quotes inner after) = quoted (markdown_of inner)
first_block (items inner after) = itemized (markdown_of inner)

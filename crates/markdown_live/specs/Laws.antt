-- What one may rely on of Markdown that comes in pieces, on a terminal that scrolls.
use Rattle.std.specs.Prelude.{◌≡◌, ℕ, true, List, ◌++◌, Option}
use Rattle.std.specs.List.{list_all}
use Rattle.mad_page_skin.specs.declared.page_skin.PageSkin.{PageSkin}
use Rattle.mad_sections.specs.Sections.{SectionContent}
use Rattle.markdown_blocks.specs.Lines.{text_lines}
use Rattle.markdown_leaves.specs.declared.parts.Kind.{Kind}
use Rattle.markdown_live.specs.Growing.{ShowsSoFar}
use Rattle.markdown_live.specs.LiveMarkdowns.{ArePageRows}
use Rattle.markdown_live.specs.ShownLines.{shown_line}
use Rattle.markdown_reader.specs.Steady.{steady_sections}
use Rattle.markdown_stream.specs.Known.{defines_nothing}
use Rattle.markdown_stream.specs.OpenSections.{after_lines}
use Rattle.markdown_stream.specs.Readings.{lines_read, parts_at_end}
use Rattle.markdown_stream.specs.Streamed.{streamed_sections}

-- What is shown of a line that has begun is a front of it.
abbrev pub ShownIsAFront : Type 0
ShownIsAFront = (open_leaf : Kind) (line : List ℕ) → (kept : List ℕ) × (line ≡ shown_line open_leaf line ++ kept)

-- Whatever comes, the sections that are complete are the first ones of the text as it is streamed.
abbrev pub CompleteStays : Type 0
CompleteStays =
    (text later : List ℕ) (complete growing : List SectionContent) → ShowsSoFar text complete growing
    → (rest : List SectionContent) × (steady_sections (streamed_sections (text ++ later)) ≡ complete ++ rest)

-- the lines of what is shown of the line that has begun
abbrev pub begun_lines : (lines : List (List ℕ)) → List ℕ → List (List ℕ)
begun_lines lines begun = text_lines (shown_line (after_lines lines).reading.gathering.kind begun)

-- What is complete and what is growing are the page of the text that ends with what is shown of its last line, where nothing that is open defines a link.
abbrev pub GrowingIsStreamed : Type 0
GrowingIsStreamed =
    (text shown : List ℕ) (complete growing : List SectionContent) (h : ShowsSoFar text complete growing) → text_lines shown ≡ h.lines ++ begun_lines h.lines h.begun
    → list_all defines_nothing (parts_at_end (lines_read (after_lines h.lines).reading (begun_lines h.lines h.begun))) ≡ true
    → steady_sections (streamed_sections shown) ≡ complete ++ growing

-- Rows of first sections that were done, and rows of the next ones below them, are rows of one page.
abbrev pub RowsGoOn : Type 0
RowsGoOn =
    (skin : PageSkin) (width : Option ℕ) (first next : List SectionContent) (done rows : List ℕ) → ArePageRows skin width first done → ArePageRows skin width next rows
    → ArePageRows skin width (first ++ next) (done ++ rows)

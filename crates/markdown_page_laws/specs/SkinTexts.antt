-- What skins that agree in four things show of a text: the same characters, in the same order.
use Rattle.std.specs.Prelude.{◌≡◌, ℕ, ◌-◌, ◌^◌, ◌<◌, ◌≤◌, Bool, true, List, [], ◌∷◌, ◌++◌, Some}
use Rattle.std.specs.List.{flat_map}
use Rattle.mad_md.specs.Lines.{LineContent}
use Rattle.mad_format.specs.Lists.{EachBecomes}
use Rattle.mad_format.specs.declared.line.FmtLine.{FmtLine}
use Rattle.mad_sections.specs.Sections.{SectionContent}
use Rattle.mad_sections.specs.Unfolded.{unfolded}
use Rattle.mad_style.specs.StyledChars.{char_alone}
use Rattle.mad_dressing.specs.Dressed.{filled_at}
use Rattle.mad_pages.specs.PageRows.{RowContent}
use Rattle.mad_page_rows.specs.Faces.{has_ascii_boxes}
use Rattle.mad_page_skin.specs.PageSkins.{page_row_skin}
use Rattle.mad_page_skin.specs.declared.page_skin.PageSkin.{PageSkin}
use Rattle.markdown_layout.specs.WrittenPages.{IsDressedAt}
use Rattle.markdown_page_laws.specs.KeptMarkdown.{IsShownBy}
use Rattle.markdown_page_laws.specs.KeptPages.{lines_of_rows}
use Rattle.markdown_reader.specs.Markdown.{markdown_sections}

-- The lines that are shown of a section at a width: its own, or those of the list in the place of a table that has no room with its words whole. A skin tells two
-- things of them: whether a blank is at both sides of each cell, and whether the boxes of tasks are of ASCII characters. Both take some of that room.
abbrev pub lines_shown : Bool → Bool → ℕ → SectionContent → List LineContent
lines_shown blanks ascii width section = flat_map (λ (shown : SectionContent). shown.lines) (unfolded (record { whole_words = true; cell_blanks = blanks }) ascii (Some width) section)

-- the lines that are shown of sections, with marks at their words or without, and with this sign in front of what is said of each picture
abbrev pub lines_at : Bool → ℕ → Bool → Bool → ℕ → List SectionContent → List LineContent
lines_at words sign blanks ascii width page = flat_map (λ (section : SectionContent). lines_shown blanks ascii width (filled_at words sign section)) page

-- so it is in a skin
abbrev pub lines_in : PageSkin → ℕ → List SectionContent → List LineContent
lines_in skin width page = lines_at skin.headings.words (char_alone skin.sign) skin.cell_blanks (has_ascii_boxes (page_row_skin skin)) width page

-- The rows of a text in each skin show these lines, one after the other.
abbrev pub TextIsTold : Type 0
TextIsTold = (skin : PageSkin) (source : List ℕ) (width : ℕ) (rows : List RowContent) → 3 ≤ width → width < 2 ^ 64 - 1 → IsDressedAt skin (Some width) (markdown_sections source) rows
    → EachBecomes IsShownBy (lines_in skin width (markdown_sections source)) (lines_of_rows rows)

-- Two lists of rows show the same: they fall into as many parts as there are lines, and each two show this line. In their cells of the same number both have its
-- characters that aren't whitespace, in the same order and with the same flags.
abbrev pub ShowAlike : List LineContent → List FmtLine → List FmtLine → Type 0
ShowAlike [] rows others = (rows ≡ []) × (others ≡ [])
ShowAlike (line ∷ lines) rows others =
    (own : List FmtLine) × (more : List FmtLine) × (rows ≡ own ++ more) × (like : List FmtLine) × (likes : List FmtLine) × (others ≡ like ++ likes)
    × IsShownBy line own × IsShownBy line like × ShowAlike lines more likes

-- The rows of a text in two skins show the same, at each width from three columns on and of fewer than 2^64 - 1. Both or neither have boxes of ASCII characters, both
-- or neither have marks at words, both or neither have blanks beside cells, and both have the same character in front of pictures.
abbrev pub SkinsKeepText : Type 0
SkinsKeepText = (skin other : PageSkin) (source : List ℕ) (width : ℕ) (rows others : List RowContent) → 3 ≤ width → width < 2 ^ 64 - 1
    → has_ascii_boxes (page_row_skin skin) ≡ has_ascii_boxes (page_row_skin other) → skin.headings.words ≡ other.headings.words → skin.cell_blanks ≡ other.cell_blanks → char_alone skin.sign ≡ char_alone other.sign
    → IsDressedAt skin (Some width) (markdown_sections source) rows → IsDressedAt other (Some width) (markdown_sections source) others
    → ShowAlike (lines_in skin width (markdown_sections source)) (lines_of_rows rows) (lines_of_rows others)

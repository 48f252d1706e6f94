-- Numbers that are drawn over rows of a page, each where its link begins.
use Rattle.std.specs.Prelude.{◌≡◌, ℕ, ◌+◌, ◌-◌, nat_lt, true, false, List, [], ◌∷◌, ◌++◌, chars, decimal, map, Option, Some, slice_get}
use Rattle.mad_format.specs.declared.composite.FmtComposite.{FmtComposite}
use Rattle.mad_format.specs.declared.line.FmtLine.{FmtLine}
use Rattle.mad_format.specs.declared.line.FmtLine.TheVariants.{Normal}
use Rattle.mad_style.specs.StyledChars.{styled_char}
use Rattle.mad_style.specs.declared.compound_styles.CompoundStyle.{CompoundStyle}
use Rattle.mad_style.specs.declared.styled_chars.StyledChar.{StyledChar}
use Rattle.mad_wrap.specs.WrapLines.{capped}
use Rattle.mad_rows.specs.Rows.{margins_of}
use Rattle.mad_rows.specs.declared.row_skin.RowSkin.{RowSkin}
use Rattle.mad_sections.specs.Gutters.{columns_of}
use Rattle.mad_pages.specs.Fronts.{FrontContent, front_at}
use Rattle.mad_pages.specs.declared.fronts.Front.{Front}
use Rattle.mad_page_rows.specs.FaceLaws.{fronts}
use Rattle.mad_page_rows.specs.Faces.{has_ascii_boxes, line_skin}
use Rattle.mad_hits.specs.Drawn.{IsHitShown}
use Rattle.mad_hits.specs.Hits.{Marked, text_column}
use Rattle.mad_hits.specs.Rooms.{room_columns}
use Rattle.mad_hits.specs.declared.rooms.RowRoom.{RowRoom}
use Rattle.mad_link_places.specs.declared.places.LinkPlace.{LinkPlace}

-- the digits of a number, in a style
abbrev pub number_chars : CompoundStyle → ℕ → List StyledChar
number_chars style n = map (styled_char style) (chars (decimal n))

-- the columns that the line of a row has behind its front, in its room
abbrev pub line_columns : RowSkin → RowRoom → FrontContent → ℕ
line_columns skin room front = room_columns room - columns_of (has_ascii_boxes skin) front.gutters

-- the column in which the text of a line begins behind its front
abbrev pub line_column : RowSkin → RowRoom → FrontContent → FmtComposite → ℕ
line_column skin room front l =
    (room.left + fronts skin front.gutters) + text_column (line_skin skin front) (Some (line_columns skin room front)) (margins_of (line_skin skin front) (Some (line_columns skin room front)) l) l

-- a number where a link begins in a line
abbrev pub placed_number : RowSkin → CompoundStyle → RowRoom → FrontContent → LinkPlace → FmtComposite → Marked
placed_number skin style room front place l = record { column = capped (line_column skin room front l + place.column); chars = number_chars style place.number }

-- these bytes show it in row y of the screen, if the row has a line of text
abbrev pub IsNumberIn : RowSkin → CompoundStyle → RowRoom → FrontContent → ℕ → LinkPlace → Option FmtLine → List ℕ → Type 0
IsNumberIn skin style room front y place (Some (Normal l)) bytes = IsHitShown room.end y (placed_number skin style room front place l) bytes
IsNumberIn skin style room front y place line bytes = bytes ≡ []

-- These bytes show a number on a screen whose first row is that of this index. So far below it as no screen has rows nothing is drawn.
pub record IsNumberShown (skin : RowSkin) (style : CompoundStyle) (room : RowRoom) (lines : List FmtLine) (fs : List Front) (top : ℕ) (place : LinkPlace) (bytes : List ℕ) : Type 0 where
  pub low : nat_lt (place.row - top) 65535 ≡ false → bytes ≡ []
  pub shown : nat_lt (place.row - top) 65535 ≡ true → IsNumberIn skin style room (front_at fs place.row) (place.row - top) place (slice_get lines place.row) bytes

-- these bytes show numbers, one after the other
abbrev pub AreNumbersShown : RowSkin → CompoundStyle → RowRoom → List FmtLine → List Front → ℕ → List LinkPlace → List ℕ → Type 0
AreNumbersShown skin style room lines fs top [] bytes = bytes ≡ []
AreNumbersShown skin style room lines fs top (place ∷ places) bytes =
    (first : List ℕ) × (others : List ℕ) × (bytes ≡ first ++ others) × IsNumberShown skin style room lines fs top place first × AreNumbersShown skin style room lines fs top places others

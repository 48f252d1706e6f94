-- A text's rows on a screen, and how they are scrolled.
use Rattle.std.specs.Prelude.{ℕ, ◌+◌, ◌-◌, ◌*◌, ◌/◌, ◌==◌, ◌&&◌, nat_le, nat_lt, codes, min, max, Bool, true, false, List, Option, Some, None, if◌then◌else◌}
use Rattle.std.specs.Str.{bytes_eq}
use Rattle.mad_page.specs.declared.page.Files.{Files}
use Rattle.mad_page.specs.declared.page.Page.{Page}

-- the files that a word names: the first in a row has a next one, the last one before it, and any other has both; a text alone has neither
abbrev pub files_named : List ℕ → Option Files
files_named word =
    if bytes_eq word (codes "alone") then Some (record { has_next = false; has_previous = false })
    else if bytes_eq word (codes "first") then Some (record { has_next = true; has_previous = false })
    else if bytes_eq word (codes "between") then Some (record { has_next = true; has_previous = true })
    else if bytes_eq word (codes "last") then Some (record { has_next = false; has_previous = true })
    else None

-- the rows of the screen that the text has: all but the last one
abbrev pub body_rows : Page → ℕ
body_rows p = p.rows - 1

-- the text's end: its last row is in the last of these rows; a text that fits is at its start
abbrev pub at_end : Page → Page
at_end p = record p { top = p.height - body_rows p }

-- some rows further down, and no further than to the end; a page that is further stays
abbrev pub below : Page → ℕ → Page
below p count = record p { top = max p.top (min (p.top + count) (p.height - body_rows p)) }

-- some rows further up, or at the text's start
abbrev pub above : Page → ℕ → Page
above p count = record p { top = p.top - count }

-- this row of the text on top, or its last one
abbrev pub at_row : Page → ℕ → Page
at_row p row = record p { top = min row (p.height - 1) }

-- so much of the text on the screen or above it that it is this per cent, and no row more; or the text's start
abbrev pub at_percent : Page → ℕ → Page
at_percent p count = record p { top = (min count 100 * p.height + 99) / 100 - body_rows p }

-- the row of this number on top, counted from 1, or the text's last one; for 0 the first
abbrev pub begun_at : ℕ → Page → Page
begun_at number p = at_row p (number - 1)

-- the number of the row on top, counted from 1; of a page past the text's last row it is that of this row
abbrev pub row_number : Page → ℕ
row_number p = min (p.top + 1) p.height

-- this row of the text is on the screen
abbrev pub shows_row : Page → ℕ → Bool
shows_row p row = nat_le p.top row && nat_lt (row - p.top) (body_rows p)

-- a row of the text in sight: on top, where it isn't on the screen already
abbrev pub in_sight : Page → ℕ → Page
in_sight p row = if shows_row p row then p else record p { top = row }

-- how much of the text is on the screen or above it, in per cent, rounded down; of a text without rows it is all
abbrev pub percent : Page → ℕ
percent p = if p.height == 0 then 100 else 100 * min (p.top + body_rows p) p.height / p.height

-- ---- the bar

-- a position on the bar: it is in the last column, where the text doesn't fit
abbrev pub is_on_bar : Page → ℕ → ℕ → Bool
is_on_bar p x y = nat_lt (body_rows p) p.height && (x + 1 == p.columns && nat_lt y (body_rows p))

-- the page that a cell of the bar stands for: the first cell the start, the last one the end, and those between in proportion
abbrev pub at_bar : Page → ℕ → Page
at_bar p y = record p { top = min y (body_rows p - 1) * (p.height - body_rows p) / max 1 (body_rows p - 1) }

-- A terminal with links: each cell has what the plain terminal has there, and the link that was open when it was written.
use Rattle.std.specs.Prelude.{◌≡◌, ◌≢◌, ℕ, suc, ◌+◌, ◌-◌, ◌*◌, ◌≤◌, ◌<◌, ◌==◌, ◌&&◌, List, [], ◌∷◌, ◌++◌, length, map, Option, Some, None, option_map, option_and_then, if◌then◌else◌, replicate, slice_index_or, slice_set, min}
use Rattle.std.specs.Str.{chars, is_utf8, IsUtf8}
use Rattle.std.specs.List.{AllByRecursion}
use Rattle.mad_characters.specs.Columns.{char_columns}
use Rattle.mad_screen.specs.Glyph.{Glyph}
use Rattle.mad_screen.specs.Grid.{Grid, IsGrid, blank, cell_at, painted, plain_pen}
use Rattle.mad_screen.specs.Terminal.{Mode, Outside, Escape, Numbers, Reading, resting, row_start, row_end, screen_end}
use Rattle.mad_screen.specs.Painting.{HasColumns}
use Rattle.mad_screen.specs.Drawing.{IsOutside}
use Rattle.mad_links.specs.SkippingTerminal.{LinkMode, NoCommand, InCommand, AtItsEnd, Skipping, passing, link_command, skip, skipped, plain_reader}

-- ---- links

-- what a cell leads to: an address, and the name by which cells are of one link
pub record Link : Type 0 where
  pub id : List ℕ
  pub address : List ℕ

-- cells of the same id and address are one link, wherever they are; without an id they need not be
pub record IsOneLink (a b : Option Link) : Type 0 where
  pub link : Link
  pub first : a ≡ Some link
  pub second : b ≡ Some link
  pub named : link.id ≢ []

-- a character put in front of the first part
abbrev pub with_first : ℕ → List (List ℕ) → List (List ℕ)
with_first c [] = (c ∷ []) ∷ []
with_first c (part ∷ parts) = (c ∷ part) ∷ parts

-- the parts of a text between characters of this code; without such a character the text is one part
abbrev pub split_at_code : ℕ → List ℕ → List (List ℕ)
split_at_code code [] = [] ∷ []
split_at_code code (c ∷ cs) = if c == code then [] ∷ split_at_code code cs else with_first c (split_at_code code cs)

-- what is behind `id=` (105, 100, 61) in the first part that begins so; else there is no id
abbrev pub id_in : List (List ℕ) → List ℕ
id_in [] = []
id_in ((i ∷ d ∷ e ∷ rest) ∷ parts) = if (i == 105) && (d == 100) && (e == 61) then rest else id_in parts
id_in (part ∷ parts) = id_in parts

-- the id among parameters, between which are colons (58)
abbrev pub id_of : List ℕ → List ℕ
id_of parameters = id_in (split_at_code 58 parameters)

-- what a command opens: none where its address is empty
abbrev pub opened_at : List ℕ → List ℕ → Option Link
opened_at parameters [] = None
opened_at parameters (c ∷ cs) = Some (record { id = id_of parameters; address = c ∷ cs })

-- what the text of a command opens, where it is one; else it stays as it was
abbrev pub opened : Option Link → Option (List ℕ × List ℕ) → Option Link
opened now None = now
opened now (Some p) = opened_at p.0 p.1

-- ---- the screen

-- The plain terminal's screen, a link or none for each of its cells, and the link that is open.
pub record LinkScreen : Type 0 where
  pub grid : Grid
  pub links : List (Option Link)
  pub current : Option Link

-- what a cell shows, and what it leads to
pub record LinkedCell : Type 0 where
  pub glyph : Glyph
  pub link : Option Link

-- a blank cell that leads nowhere
abbrev pub unlinked : LinkedCell
unlinked = record { glyph = blank; link = None }

-- the cell in column x of row y
abbrev pub linked_at : LinkScreen → ℕ → ℕ → LinkedCell
linked_at s x y = record { glyph = cell_at s.grid x y; link = slice_index_or s.links (y * s.grid.width + x) None }

-- a cell for each position, each with its link or none
pub record IsLinkScreen (s : LinkScreen) : Type 0 where
  pub grid : IsGrid s.grid
  pub full : length s.links ≡ s.grid.height * s.grid.width

-- these in place of those from the i-th on
abbrev pub put_each : {A : Type 0} → List A → ℕ → List A → List A
put_each xs i [] = xs
put_each xs i (y ∷ ys) = put_each (slice_set xs i y) (suc i) ys

-- the cells from this index on, as many as that, get one link
abbrev pub linked_cells : List (Option Link) → ℕ → ℕ → Option Link → List (Option Link)
linked_cells links from count link = put_each links from (replicate count link)

-- ---- what characters do to the links of cells

-- the indexes between which an erasure of the screen (74, `J`) erases, by its numbers
abbrev pub erased_of_screen : List ℕ → Grid → ℕ × ℕ
erased_of_screen [] g = (row_start g + g.x, screen_end g)
erased_of_screen (n ∷ ns) g = (0, if n == 1 then row_start g + min (g.x + 1) g.width else screen_end g)

-- those of an erasure of the row (75, `K`)
abbrev pub erased_of_row : List ℕ → Grid → ℕ × ℕ
erased_of_row [] g = (row_start g + g.x, row_end g)
erased_of_row (n ∷ ns) g = (row_start g, row_end g)

-- those of any command; one that isn't an erasure erases nothing
abbrev pub erased_cells : ℕ → List ℕ → Grid → ℕ × ℕ
erased_cells c ps g = if c == 74 then erased_of_screen ps g else if c == 75 then erased_of_row ps g else (0, 0)

-- the numbers of a command that ends here
abbrev pub all_numbers : List ℕ → Option ℕ → List ℕ
all_numbers ps None = ps
all_numbers ps (Some n) = ps ++ n ∷ []

-- The links of the cells after a character that the plain terminal reads. One that is shown gives its cells the open link, one that ends an
-- erasure takes it off the erased cells.
abbrev pub links_after : Mode → Grid → ℕ → Option Link → List (Option Link) → List (Option Link)
links_after Outside g c link links = linked_cells links (row_start g + g.x) (char_columns c) link
links_after Escape g c link links = links
links_after (Numbers ps now) g c link links =
    let cells = erased_cells c (all_numbers ps now) g in
    linked_cells links cells.0 (cells.1 - cells.0) None

-- a terminal with links in the middle of a text
pub record LinkReading : Type 0 where
  pub skipping : Skipping Reading
  pub links : List (Option Link)
  pub current : Option Link

-- the links of the cells after any character
abbrev pub next_links : LinkMode → Reading → ℕ → Option Link → List (Option Link) → List (Option Link)
next_links NoCommand r c link links = links_after r.mode r.grid c link links
next_links (InCommand text) r c link links = links
next_links (AtItsEnd text) r c link links = links

-- the link that is open after it
abbrev pub next_link : LinkMode → Option Link → Option Link
next_link NoCommand link = link
next_link (InCommand text) link = link
next_link (AtItsEnd text) link = opened link (link_command text)

-- the next character: what a terminal that passes over links makes of it, and its links
abbrev pub link_feed : LinkReading → ℕ → Option LinkReading
link_feed r c =
    option_map (λ s. record {
      skipping = s;
      links = next_links r.skipping.mode r.skipping.plain c r.current r.links;
      current = next_link r.skipping.mode r.current;
    }) (skip plain_reader r.skipping c)

-- characters, one after another
abbrev pub link_feed_all : List ℕ → LinkReading → Option LinkReading
link_feed_all [] r = Some r
link_feed_all (c ∷ cs) r = option_and_then (link_feed_all cs) (link_feed r c)

-- outside every sequence and command
abbrev pub link_resting : LinkScreen → LinkReading
link_resting s = record { skipping = passing (resting s.grid); links = s.links; current = s.current }

-- these characters lead from one reading to the other
unfoldable pub LinkLeads : LinkReading → List ℕ → LinkReading → Type 0
LinkLeads r cs s = link_feed_all cs r ≡ Some s

-- the screen at a text's end, where nothing is cut off
abbrev pub link_settled : LinkReading → Option LinkScreen
link_settled r = option_map (λ g. record { grid = g; links = r.links; current = r.current }) (skipped r.skipping)

-- the screen after these bytes, if a terminal with links can read them
unfoldable pub after_linked : LinkScreen → List ℕ → Option LinkScreen
after_linked s bytes = if is_utf8 bytes then option_and_then link_settled (link_feed_all (chars bytes) (link_resting s)) else None

-- ---- what bytes write

-- these cells from the cursor on, and the cursor after them
unfoldable pub link_painted : LinkScreen → List LinkedCell → LinkScreen
link_painted s cells = record s {
  grid = painted s.grid (map (λ c. c.glyph) cells);
  links = put_each s.links (s.grid.y * s.grid.width + s.grid.x) (map (λ c. c.link) cells);
}

-- n columns are free from the cursor on, the pen is plain, and no link is open
pub record HasLinkColumns (s : LinkScreen) (n : ℕ) : Type 0 where
  pub columns : HasColumns s.grid n
  pub full : length s.links ≡ s.grid.height * s.grid.width
  pub pen : s.grid.pen ≡ plain_pen
  pub closed : s.current ≡ None

-- Characters that, read where there are columns for these cells, write them from the cursor on, leave the plain pen, and leave no link open.
abbrev pub CharsLinkPaint : List ℕ → List LinkedCell → Type 0
CharsLinkPaint cs cells = (s : LinkScreen) → HasLinkColumns s (length cells) → LinkLeads (link_resting s) cs (link_resting (link_painted s cells))

-- bytes whose characters do so
pub record LinkPaints (bytes : List ℕ) (cells : List LinkedCell) : Type 0 where
  pub text : IsUtf8 bytes
  pub paints : CharsLinkPaint (chars bytes) cells

-- ---- rows in an area

-- each row's bytes paint its cells
abbrev pub LinkPaintRows : List (List ℕ) → List (List LinkedCell) → Type 0
LinkPaintRows [] [] = Unit {0}
LinkPaintRows (t ∷ ts) (r ∷ rs) = LinkPaints t r × LinkPaintRows ts rs
LinkPaintRows _ _ = ⊥

-- The area lies on the screen, which has the plain pen and no link open, and each row has the area's width.
pub record FitsLinkArea (left top w : ℕ) (rows : List (List LinkedCell)) (s : LinkScreen) : Type 0 where
  pub screen : IsLinkScreen s
  pub pen : s.grid.pen ≡ plain_pen
  pub closed : s.current ≡ None
  pub some : 0 < w
  pub columns : left + w ≤ s.grid.width
  pub lines : top + length rows ≤ s.grid.height
  pub wide : AllByRecursion (λ r. length r ≡ w) rows

-- an area of w columns and h rows shows these rows and leads where their cells do; no cell outside it has changed, nor what it leads to
pub record ShowsLinkedRows (left top w h : ℕ) (rows : List (List LinkedCell)) (old new : LinkScreen) : Type 0 where
  pub width : new.grid.width ≡ old.grid.width
  pub height : new.grid.height ≡ old.grid.height
  pub inside : (i j : ℕ) → i < w → j < h → linked_at new (left + i) (top + j) ≡ slice_index_or (slice_index_or rows j []) i unlinked
  pub outside : (x y : ℕ) → x < old.grid.width → IsOutside left top w h x y → linked_at new x y ≡ linked_at old x y

-- a terminal with links that reads these bytes shows that, has the plain pen again, and no link is open
abbrev pub LinkedDrawnAs : ℕ → ℕ → List (List LinkedCell) → List ℕ → Type 0
LinkedDrawnAs left top rows bytes =
    (s : LinkScreen) (w : ℕ) → FitsLinkArea left top w rows s
    → (new : LinkScreen) × (after_linked s bytes ≡ Some new) × IsLinkScreen new × (new.grid.pen ≡ plain_pen) × (new.current ≡ None) × ShowsLinkedRows left top w (length rows) rows s new

-- Rows with links in an area of a terminal with links.
use Rattle.std.proofs.Common.{◌≡◌, ◌≢◌, ◌⊎◌, inl, inr, ⊎_elim, ℕ, suc, zero, ◌+◌, ◌*◌, ◌^◌, ◌<◌, ◌≤◌, cond, List, [], ◌∷◌, ◌++◌, length, get_or, map, Option, Some, None, refl, ap, sym, ◌∙◌, subst, arith, IsUtf8}
use Rattle.std.specs.Prelude.{option_and_then}
use Rattle.std.specs.List.{AllByRecursion}
use Rattle.std.specs.Str.{chars}
use Rattle.std.proofs.lemmas.Str.{chars-append, chars-nil, chars-IsAscii, IsUtf8-append, IsUtf8-nil, IsUtf8-from_ascii, is_utf8-from_IsUtf8}
use Rattle.std.proofs.lemmas.Nat.{row_fits}
use Rattle.std.proofs.lemmas.Bool.{cases_lt}
use Rattle.mad_term.specs.Commands.{move_to_bytes}
use Rattle.mad_screen.specs.Glyph.{Glyph}
use Rattle.mad_screen.specs.Grid.{painted, blank, plain_pen}
use Rattle.mad_screen.specs.Drawing.{drawing, IsOutside}
use Rattle.mad_screen.proofs.AsciiCommands.{ascii_move_to}
use Rattle.mad_screen.proofs.DrawingLemmas.{at, at_columns, row_inside, row_outside}
use Rattle.mad_screen.proofs.PaintingLemmas.{painted_is_grid}
use Rattle.mad_screen.proofs.Reading.{move_leads}
use Rattle.mad_links.specs.LinkTerminal.{Link, LinkScreen, LinkReading, LinkLeads, LinkedCell, IsLinkScreen, HasLinkColumns, LinkPaintRows, ShowsLinkedRows, LinkedDrawnAs, after_linked, link_feed_all, link_resting, link_settled, link_painted, linked_at, unlinked, put_each}
use Rattle.mad_links.specs.LinkRows.{LinkedPiece, AreLinkedPieces, AreAddresses, linked_bytes, row_cells}
use Rattle.mad_links.proofs.LinkTextLemmas.{quiet_leads, quiet_move, link_leads_both, link_leads_nothing}
use Rattle.mad_links.proofs.LinkRowLemmas.{map_length, links_are_in_their_cells}
use Rattle.mad_links.proofs.PutEach.{length-put_each, put_each-same, put_each-other}

-- ---- one row

-- the screen with the cursor at a position
abbrev pub moved : LinkScreen → ℕ → ℕ → LinkScreen
moved s x y = record s { grid = at s.grid x y }

glyph_in : (cells : List LinkedCell) (i : ℕ) → i < length cells → get_or (map (λ (c : LinkedCell). c.glyph) cells) i blank ≡ (get_or cells i unlinked).glyph
glyph_in [] i h = absurd (omega arith)
glyph_in (c ∷ cells) zero h = refl
glyph_in (c ∷ cells) (suc i) h = glyph_in cells i (omega arith)

link_in : (cells : List LinkedCell) (i : ℕ) → i < length cells → get_or (map (λ (c : LinkedCell). c.link) cells) i None ≡ (get_or cells i unlinked).link
link_in [] i h = absurd (omega arith)
link_in (c ∷ cells) zero h = refl
link_in (c ∷ cells) (suc i) h = link_in cells i (omega arith)

abbrev cell_of : Glyph → Option Link → LinkedCell
cell_of g k = record { glyph = g; link = k }

both_same : (a b : Glyph) (k l : Option Link) → a ≡ b → k ≡ l → cell_of a k ≡ cell_of b l
both_same a b k l e f = ap (λ (g : Glyph). cell_of g k) e ∙ ap (cell_of b) f

-- a position among the cells of a row
linked_inside : (s : LinkScreen) (left top : ℕ) (cells : List LinkedCell) (i : ℕ) → IsLinkScreen s → top < s.grid.height → left + length cells ≤ s.grid.width → i < length cells
    → linked_at (link_painted (moved s left top) cells) (left + i) top ≡ get_or cells i unlinked
unfolding link_painted painted
linked_inside s left top cells i h in_height fits below =
    let glyphs : List Glyph = map (λ (c : LinkedCell). c.glyph) cells in
    let links : List (Option Link) = map (λ (c : LinkedCell). c.link) cells in
    let count : length glyphs ≡ length cells = map_length (λ (c : LinkedCell). c.glyph) cells in
    let link_count : length links ≡ length cells = map_length (λ (c : LinkedCell). c.link) cells in
    let start = top * s.grid.width + left in
    let place : top * s.grid.width + (left + i) ≡ start + i = omega arith in
    let room : start + length links ≤ length s.links = omega (arith, h.full, row_fits top s.grid.width s.grid.height s.grid.width in_height (omega arith)) in
    both_same _ _ _ _
    (row_inside s.grid left top glyphs i h.grid in_height (omega arith) (omega arith) ∙ glyph_in cells i below)
    (ap (λ n. get_or (put_each s.links start links) n None) place ∙ put_each-same s.links start links i None (omega arith) room ∙ link_in cells i below)

-- a position that is not in the row's part
linked_outside : (s : LinkScreen) (left top : ℕ) (cells : List LinkedCell) (x y : ℕ) → left + length cells ≤ s.grid.width → x < s.grid.width → (y ≢ top) ⊎ (x < left) ⊎ (left + length cells ≤ x)
    → linked_at (link_painted (moved s left top) cells) x y ≡ linked_at s x y
unfolding link_painted painted
linked_outside s left top cells x y fits in_width out =
    let g = s.grid in
    let glyphs : List Glyph = map (λ (c : LinkedCell). c.glyph) cells in
    let links : List (Option Link) = map (λ (c : LinkedCell). c.link) cells in
    let count : length glyphs ≡ length cells = map_length (λ (c : LinkedCell). c.glyph) cells in
    let link_count : length links ≡ length cells = map_length (λ (c : LinkedCell). c.link) cells in
    both_same _ _ _ _
    (row_outside g left top glyphs x y (omega arith) in_width (⊎_elim (λ a. inl a) (⊎_elim (λ a. inr (inl a)) (λ a. inr (inr (omega arith)))) out))
    (put_each-other s.links (top * g.width + left) links (y * g.width + x) None
    (⊎_elim
    (λ ne. ⊎_elim
    (λ above. inl (omega (arith, row_fits y g.width top g.width above (omega arith))))
    (λ below. inr (omega (arith, row_fits top g.width y g.width (omega arith) (omega arith))))
    (cases_lt y top))
    (λ (same : (x < left) ⊎ (left + length cells ≤ x)). ⊎_elim
    (λ above. inl (omega (arith, row_fits y g.width top g.width above (omega arith))))
    (λ not_above. ⊎_elim
    (λ below. inr (omega (arith, row_fits top g.width y g.width (omega arith) (omega arith))))
    (λ not_below.
    let row : y ≡ top = omega arith in
    let start : y * g.width ≡ top * g.width = ap (λ n. n * g.width) row in
    ⊎_elim (λ before. inl (omega arith)) (λ after. inr (omega arith)) same)
    (cases_lt top y))
    (cases_lt y top))
    out))

-- ---- the rows

-- the screen after them
abbrev pub painted_link_rows : LinkScreen → ℕ → ℕ → List (List LinkedCell) → LinkScreen
painted_link_rows s left top [] = s
painted_link_rows s left top (r ∷ rs) = painted_link_rows (link_painted (moved s left top) r) left (suc top) rs

painted_is_screen : (s : LinkScreen) (left top : ℕ) (cells : List LinkedCell) → IsLinkScreen s → top < s.grid.height → left + length cells ≤ s.grid.width → IsLinkScreen (link_painted (moved s left top) cells)
unfolding link_painted painted
painted_is_screen s left top cells h in_height fits =
    let glyphs : List Glyph = map (λ (c : LinkedCell). c.glyph) cells in
    let count : length glyphs ≡ length cells = map_length (λ (c : LinkedCell). c.glyph) cells in
    record {
      grid = painted_is_grid (at s.grid left top) glyphs (at_columns s.grid left top (length cells) h.grid in_height fits).grid (omega arith);
      full = length-put_each s.links (top * s.grid.width + left) (map (λ (c : LinkedCell). c.link) cells) ∙ h.full;
    }

move_chars : (left top : ℕ) (t rest : List ℕ) → left + 1 < 2 ^ 32 → top + 1 < 2 ^ 32 → IsUtf8 t → IsUtf8 rest
    → IsUtf8 (move_to_bytes left top ++ (t ++ rest)) × (chars (move_to_bytes left top ++ (t ++ rest)) ≡ move_to_bytes left top ++ (chars t ++ chars rest))
move_chars left top t rest small_x small_y text texts =
    let ascii = ascii_move_to left top (omega arith) (omega arith) in
    let move : IsUtf8 (move_to_bytes left top) = IsUtf8-from_ascii (move_to_bytes left top) ascii in (
      IsUtf8-append (move_to_bytes left top) (t ++ rest) move (IsUtf8-append t rest text texts),
      chars-append (move_to_bytes left top) (t ++ rest) move ∙ ap (λ l. l ++ chars (t ++ rest)) (chars-IsAscii (move_to_bytes left top) ascii)
          ∙ ap (λ l. move_to_bytes left top ++ l) (chars-append t rest text),
    )

row_has : (s : LinkScreen) (left top : ℕ) (cells : List LinkedCell) → IsLinkScreen s → s.grid.pen ≡ plain_pen → s.current ≡ None → top < s.grid.height → left + length cells ≤ s.grid.width → HasLinkColumns (moved s left top) (length cells)
row_has s left top cells h pen closed in_height fits = record {
  columns = at_columns s.grid left top (length cells) h.grid in_height fits;
  full = h.full;
  pen = pen;
  closed = closed;
}

-- bytes that paint the rows lead to the screen after them
pub drawing_links : (ts : List (List ℕ)) (rs : List (List LinkedCell)) (s : LinkScreen) (left top w : ℕ) → LinkPaintRows ts rs → AllByRecursion (λ r. length r ≡ w) rs → IsLinkScreen s → s.grid.pen ≡ plain_pen → s.current ≡ None → 0 < w → left + w ≤ s.grid.width → top + length rs ≤ s.grid.height → left + 1 < 2 ^ 32 → top + length rs < 2 ^ 32
    → IsUtf8 (drawing left top ts) × LinkLeads (link_resting s) (chars (drawing left top ts)) (link_resting (painted_link_rows s left top rs))
unfolding link_painted painted
drawing_links [] [] s left top w paints wide h pen closed some fits_x fits_y small_x small_y = (IsUtf8-nil, subst (λ (cs : List ℕ). LinkLeads (link_resting s) cs (link_resting s)) (sym chars-nil) (link_leads_nothing _))
drawing_links [] (r ∷ rs) s left top w paints wide h pen closed some fits_x fits_y small_x small_y = absurd paints
drawing_links (t ∷ ts) [] s left top w paints wide h pen closed some fits_x fits_y small_x small_y = absurd paints
drawing_links (t ∷ ts) (r ∷ rs) s left top w paints wide h pen closed some fits_x fits_y small_x small_y =
    let fits : left + length r ≤ s.grid.width = omega (arith, wide.0) in
    let in_height : top < s.grid.height = omega arith in
    let next : LinkScreen = link_painted (moved s left top) r in
    let below : IsUtf8 (drawing left (suc top) ts) × LinkLeads (link_resting next) (chars (drawing left (suc top) ts)) (link_resting (painted_link_rows s left top (r ∷ rs))) =
    drawing_links ts rs next left (suc top) w paints.1 wide.1 (painted_is_screen s left top r h in_height fits) pen closed some fits_x (omega arith) small_x (omega arith) in
    let bytes = move_chars left top t (drawing left (suc top) ts) small_x (omega arith) paints.0.text below.0 in
    let end : LinkReading = link_resting (painted_link_rows s left top (r ∷ rs)) in
    let moves : LinkLeads (link_resting s) (move_to_bytes left top) (link_resting (moved s left top)) =
    quiet_leads (move_to_bytes left top) s.grid (at s.grid left top) s.links s.current (quiet_move left top (omega arith) (omega arith) s.grid) (move_leads s.grid left top (omega arith) in_height small_x (omega arith)) in (
      bytes.0,
      subst (λ (cs : List ℕ). LinkLeads (link_resting s) cs end) (sym bytes.1)
          (link_leads_both (link_resting s) (link_resting (moved s left top)) end (move_to_bytes left top) (chars t ++ chars (drawing left (suc top) ts)) moves
          (link_leads_both (link_resting (moved s left top)) (link_resting next) end (chars t) (chars (drawing left (suc top) ts)) (paints.0.paints (moved s left top) (row_has s left top r h pen closed in_height fits)) below.1)),
    )

-- the positions of the first row and of those below it
inside_step : (r : List LinkedCell) (rs : List (List LinkedCell)) (s new : LinkScreen) (left top w : ℕ) → length r ≡ w → IsLinkScreen s → left + w ≤ s.grid.width → top < s.grid.height
    → ShowsLinkedRows left (suc top) w (length rs) rs (link_painted (moved s left top) r) new → (i j : ℕ) → i < w → j < suc (length rs)
    → linked_at new (left + i) (top + j) ≡ get_or (get_or (r ∷ rs) j []) i unlinked
unfolding link_painted painted
inside_step r rs s new left top w wide h fits_x fits_y below i zero in_w in_h =
    let row : top + 0 ≡ top = omega arith in
    ap (λ y. linked_at new (left + i) y) row ∙ below.outside (left + i) top (omega arith) (inr (inr (inl (omega arith))))
    ∙ linked_inside s left top r i h fits_y (omega arith) (omega arith)
inside_step r rs s new left top w wide h fits_x fits_y below i (suc j) in_w in_h =
    let row : top + suc j ≡ suc top + j = omega arith in
    ap (λ y. linked_at new (left + i) y) row ∙ below.inside i j in_w (omega arith)

outside_step : (r : List LinkedCell) (rs : List (List LinkedCell)) (s new : LinkScreen) (left top w : ℕ) → length r ≡ w → left + w ≤ s.grid.width
    → ShowsLinkedRows left (suc top) w (length rs) rs (link_painted (moved s left top) r) new → (x y : ℕ) → x < s.grid.width → IsOutside left top w (suc (length rs)) x y
    → linked_at new x y ≡ linked_at s x y
unfolding link_painted painted
outside_step r rs s new left top w wide fits below x y in_width out =
    below.outside x y in_width (⊎_elim (λ a. inl a) (⊎_elim (λ a. inr (inl a)) (⊎_elim (λ a. inr (inr (inl (omega arith)))) (λ a. inr (inr (inr (omega arith)))))) out)
    ∙ linked_outside s left top r x y (omega arith) in_width (⊎_elim (λ a. inr (inl a)) (⊎_elim (λ a. inr (inr (omega arith))) (⊎_elim (λ a. inl (omega arith)) (λ a. inl (omega arith)))) out)

-- what is kept over the rows
pub record EndsPlain (s : LinkScreen) : Type 0 where
  pub screen : IsLinkScreen s
  pub pen : s.grid.pen ≡ plain_pen
  pub closed : s.current ≡ None

rows_end : (rs : List (List LinkedCell)) (s : LinkScreen) (left top w : ℕ) → AllByRecursion (λ r. length r ≡ w) rs → EndsPlain s → left + w ≤ s.grid.width → top + length rs ≤ s.grid.height → EndsPlain (painted_link_rows s left top rs)
unfolding link_painted painted
rows_end [] s left top w wide h fits_x fits_y = h
rows_end (r ∷ rs) s left top w wide h fits_x fits_y =
    rows_end rs (link_painted (moved s left top) r) left (suc top) w wide.1
    (record { screen = painted_is_screen s left top r h.screen (omega arith) (omega (arith, wide.0)); pen = h.pen; closed = h.closed }) fits_x (omega arith)

-- that screen shows the rows and leads where their cells do
pub painted_rows_show : (rs : List (List LinkedCell)) (s : LinkScreen) (left top w : ℕ) → AllByRecursion (λ r. length r ≡ w) rs → IsLinkScreen s → left + w ≤ s.grid.width → top + length rs ≤ s.grid.height
    → ShowsLinkedRows left top w (length rs) rs s (painted_link_rows s left top rs)
unfolding link_painted painted
painted_rows_show [] s left top w wide h fits_x fits_y = record {
  width = refl;
  height = refl;
  inside = λ i j in_w in_h. absurd (omega arith);
  outside = λ x y in_width out. refl;
}
painted_rows_show (r ∷ rs) s left top w wide h fits_x fits_y =
    let t : LinkScreen = link_painted (moved s left top) r in
    let below : ShowsLinkedRows left (suc top) w (length rs) rs t (painted_link_rows t left (suc top) rs) = painted_rows_show rs t left (suc top) w wide.1 (painted_is_screen s left top r h (omega arith) (omega (arith, wide.0))) fits_x (omega arith) in
    record {
      width = below.width;
      height = below.height;
      inside = inside_step r rs s (painted_link_rows t left (suc top) rs) left top w wide.0 h fits_x (omega arith) below;
      outside = outside_step r rs s (painted_link_rows t left (suc top) rs) left top w wide.0 fits_x below;
    }

-- bytes are read as their characters are
pub linked_read : (s new : LinkScreen) (bytes : List ℕ) → IsUtf8 bytes → LinkLeads (link_resting s) (chars bytes) (link_resting new) → after_linked s bytes ≡ Some new
unfolding after_linked LinkLeads
linked_read s new bytes text h =
    ap (λ b. cond b (option_and_then link_settled (link_feed_all (chars bytes) (link_resting s))) None) (is_utf8-from_IsUtf8 bytes text) ∙ ap (option_and_then link_settled) h

-- THE LAW: rows of bytes that paint cells with links show these in an area
pub linked_drawn : (left top : ℕ) (ts : List (List ℕ)) (rs : List (List LinkedCell)) → left < 2 ^ 16 → top + length rs < 2 ^ 32 → LinkPaintRows ts rs → LinkedDrawnAs left top rs (drawing left top ts)
linked_drawn left top ts rs small_x small_y paints s w fits =
    let new : LinkScreen = painted_link_rows s left top rs in
    let read = drawing_links ts rs s left top w paints fits.wide fits.screen fits.pen fits.closed fits.some fits.columns fits.lines (omega arith) small_y in
    let ends : EndsPlain new = rows_end rs s left top w fits.wide (record { screen = fits.screen; pen = fits.pen; closed = fits.closed }) fits.columns fits.lines in (
      new,
      linked_read s new (drawing left top ts) read.0 read.1,
      ends.screen,
      ends.pen,
      ends.closed,
      painted_rows_show rs s left top w fits.wide fits.screen fits.columns fits.lines,
    )

rows_paint : (addresses : List (Option (List ℕ))) (rows : List (List LinkedPiece)) → AllByRecursion AreLinkedPieces rows → AreAddresses addresses → LinkPaintRows (map (linked_bytes addresses) rows) (map (row_cells addresses) rows)
rows_paint addresses [] are known = tt
rows_paint addresses (r ∷ rs) are known = (links_are_in_their_cells addresses r are.0 known, rows_paint addresses rs are.1 known)

-- THE LAW: so do rows of pieces
pub links_drawn : (left top : ℕ) (addresses : List (Option (List ℕ))) (rows : List (List LinkedPiece)) → left < 2 ^ 16 → top + length rows < 2 ^ 32 → AllByRecursion AreLinkedPieces rows → AreAddresses addresses
    → LinkedDrawnAs left top (map (row_cells addresses) rows) (drawing left top (map (linked_bytes addresses) rows))
links_drawn left top addresses rows small_x small_y are known =
    linked_drawn left top (map (linked_bytes addresses) rows) (map (row_cells addresses) rows) small_x (omega (arith, map_length (row_cells addresses) rows)) (rows_paint addresses rows are known)

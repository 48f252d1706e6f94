-- Rows with links in areas.
use Rattle.std.proofs.Common.{◌≡◌, ℕ, zero, suc, ◌+◌, ◌<◌, ◌≤◌, ◌^◌, Bool, List, [], ◌∷◌, ◌++◌, length, length-append, map, Option, None, refl, ap, sym, ◌∙◌, subst, arith, IsUtf8, append_assoc, get_or, Some, ⊎_elim, append-nil, take}
use Rattle.std.specs.Prelude.{if◌then◌else◌}
use Rattle.std.specs.List.{AllByRecursion}
use Rattle.std.specs.Str.{chars}
use Rattle.std.proofs.lemmas.Str.{chars-append}
use Rattle.std.proofs.lemmas.List.{map-append, length-map, take_more, take_all}
use Rattle.mad_term.specs.declared.styles.ContentStyle.{ContentStyle}
use Rattle.mad_term.specs.Styles.{piece_bytes, IsStyle}
use Rattle.mad_screen.specs.Grid.{Grid, IsGrid, plain_pen, blank}
use Rattle.mad_screen.specs.Terminal.{after_bytes}
use Rattle.mad_screen.specs.Drawing.{drawing, ShowsRows}
use Rattle.mad_screen.specs.Painting.{look_of_style, piece_cells}
use Rattle.mad_draw.specs.PennedCells.{penned_cells}
use Rattle.mad_draw.proofs.ShownLemmas.{area_shown}
use Rattle.std.proofs.lemmas.Bool.{cases_lt}
use Rattle.mad_term.specs.Commands.{move_to_bytes}
use Rattle.mad_term.specs.Trace.{Trace, TookWith, after}
use Rattle.mad_term.proofs.Traces.{took_with}
use Rattle.mad_screen.proofs.RowLoops.{drawing-append}
use Rattle.mad_draw.specs.Parts.{parts_bytes}
use Rattle.mad_links.specs.Pieces.{piece_of}
use Rattle.mad_links.specs.declared.rows.LinkPiece.{LinkPiece}
use Rattle.mad_measure.specs.Areas.{IsWithinLimits}
use Rattle.mad_measure.specs.declared.area.Area.{Area}
use Rattle.mad_draw.specs.DrawnRows.{rows_bytes, rows_from, IsOnScreen, FillArea}
use Rattle.mad_draw.specs.Pieces.{RowPiece, AreKnown, AreShownPieces, FillsRow, PennedChar, penned_chars, pieces_bytes, spaces}
use Rattle.mad_draw.proofs.CharLemmas.{penned_both}
use Rattle.mad_draw.proofs.PieceLemmas.{pieces_cells, length-pieces_cells}
use Rattle.mad_format.specs.declared.composite.FmtComposite.{FmtComposite}
use Rattle.mad_rows.specs.Rows.{composite_pieces, prefix_pieces, inner_blanks, outer_blanks, compound_piece}
use Rattle.mad_rows.specs.RowStyles.{line_style}
use Rattle.mad_rows.specs.declared.row_skin.RowSkin.{RowSkin}
use Rattle.mad_links.specs.LinkRows.{LinkedPiece, AreLinkedPieces, linked_bytes, unlinked_bytes, written_link, row_cells, piece_linked_cells, target, AreAddresses}
use Rattle.mad_links.specs.LinkTerminal.{LinkedCell, FitsLinkArea, ShowsLinkedRows}
use Rattle.mad_links.specs.SkippingTerminal.{after_skipping}
use Rattle.mad_links.proofs.PlainLemmas.{shows_the_same}
use Rattle.mad_links.proofs.LinkAreaLemmas.{links_drawn}
use Rattle.mad_links.proofs.LinkRowLemmas.{writes_nothing}
use Rattle.mad_links.proofs.TerminalLemmas.{drawings_are_woven}
use Rattle.mad_links.specs.AreaLaws.{AreLinkedRows, IsShownWithoutLinks}
use Rattle.mad_links.specs.LinkedAreas.{AreLinkedRowsShown, in_no_link, linked_rows_bytes, linked_rows_from, without_link, without_links, row_part}
use Rattle.mad_links.specs.LinkedLines.{composite_links, SaysCompounds, ShowsCompounds}

-- ---- pieces without links

-- what is written of pieces without links is what is written of rows
pub unlinked_is : (ps : List LinkedPiece) → unlinked_bytes ps ≡ pieces_bytes (without_links ps)
unlinked_is [] = refl
unlinked_is (p ∷ ps) = ap (λ l. piece_bytes p.style p.text ++ l) (unlinked_is ps)

none_linked : (addresses : List (Option (List ℕ))) (ps : List RowPiece) → AllByRecursion (λ p. written_link addresses p.link ≡ None) (map in_no_link ps)
none_linked addresses [] = tt
none_linked addresses (p ∷ ps) = (refl, none_linked addresses ps)

without_again : (ps : List RowPiece) → without_links (map in_no_link ps) ≡ ps
without_again [] = refl
without_again (p ∷ ps) = ap (λ l. p ∷ l) (without_again ps)

-- of pieces in no link nothing is written of links
pub no_link_no_byte : (addresses : List (Option (List ℕ))) (ps : List RowPiece) → linked_bytes addresses (map in_no_link ps) ≡ pieces_bytes ps
no_link_no_byte addresses ps = writes_nothing addresses (map in_no_link ps) (none_linked addresses ps) ∙ unlinked_is (map in_no_link ps) ∙ ap pieces_bytes (without_again ps)

-- ---- rows

-- pieces are those that the laws speak of, where they are so without links
pub pieces_are : (ps : List LinkedPiece) → AreKnown (without_links ps) → AreShownPieces (without_links ps) → AreLinkedPieces ps
pieces_are [] known shown = tt
pieces_are (p ∷ ps) known shown = (record { utf8 = shown.0.utf8; shown = shown.0.shown; style = known.0 }, pieces_are ps known.1 shown.1)

glyph_count : (addresses : List (Option (List ℕ))) (ps : List LinkedPiece) → length (row_cells addresses ps) ≡ length (pieces_cells (without_links ps))
glyph_count addresses [] = refl
glyph_count addresses (p ∷ ps) =
    length-append (piece_linked_cells addresses p) (row_cells addresses ps)
    ∙ ap (λ n. n + length (row_cells addresses ps)) (length-map (piece_cells p.style p.text) (λ g. record { glyph = g; link = target addresses p.link }))
    ∙ ap (λ n. length (piece_cells p.style p.text) + n) (glyph_count addresses ps)
    ∙ sym (length-append (piece_cells p.style p.text) (pieces_cells (without_links ps)))

row_wide : (addresses : List (Option (List ℕ))) (ps : List LinkedPiece) (w : ℕ) → FillsRow w (without_links ps) → length (row_cells addresses ps) ≡ w
row_wide addresses ps w fills = glyph_count addresses ps ∙ length-pieces_cells (without_links ps) ∙ fills.columns

-- what is asked of the rows from number y on
abbrev pub FillsFrom : (ℕ → List LinkedPiece) → ℕ → ℕ → ℕ → Type 0
FillsFrom row w y count = (k : ℕ) → y ≤ k → k < y + count → FillsRow w (without_links (row k)) × AreKnown (without_links (row k))

fill_next : (row : ℕ → List LinkedPiece) (w y count : ℕ) → FillsFrom row w y (suc count) → FillsFrom row w (suc y) count
fill_next row w y count fill k low high = fill k (omega arith) (omega arith)

rows_are : (row : ℕ → List LinkedPiece) (w y count : ℕ) → FillsFrom row w y count → AllByRecursion AreLinkedPieces (linked_rows_from row y count)
rows_are row w y zero fill = tt
rows_are row w y (suc count) fill =
    let own = fill y (omega arith) (omega arith) in
    (pieces_are (row y) own.1 own.0.shown, rows_are row w (suc y) count (fill_next row w y count fill))

rows_wide : (addresses : List (Option (List ℕ))) (row : ℕ → List LinkedPiece) (w y count : ℕ) → FillsFrom row w y count → AllByRecursion (λ r. length r ≡ w) (map (row_cells addresses) (linked_rows_from row y count))
rows_wide addresses row w y zero fill = tt
rows_wide addresses row w y (suc count) fill = (row_wide addresses (row y) w (fill y (omega arith) (omega arith)).0, rows_wide addresses row w (suc y) count (fill_next row w y count fill))

count_is : (row : ℕ → List LinkedPiece) (y count : ℕ) → length (linked_rows_from row y count) ≡ count
count_is row y zero = refl
count_is row y (suc count) = ap suc (count_is row (suc y) count)

fills : (row : ℕ → List LinkedPiece) (addresses : List (Option (List ℕ))) (area : Area) → AreLinkedRows row addresses area → FillsFrom row area.width 0 area.height
fills row addresses area is k low high = (is.fill k (omega arith), is.known k (omega arith))

-- THE LAW: the rows of an area lead where their links do
pub links_in_areas : (row : ℕ → List LinkedPiece) (addresses : List (Option (List ℕ))) (area : Area) → AreLinkedRows row addresses area → AreLinkedRowsShown row addresses area (linked_rows_bytes row addresses area)
links_in_areas row addresses area is s on_screen =
    let rows : List (List LinkedPiece) = linked_rows_from row 0 area.height in
    let cells : List (List LinkedCell) = map (row_cells addresses) rows in
    let count : length rows ≡ area.height = count_is row 0 area.height in
    let cell_count : length cells ≡ area.height = length-map rows (row_cells addresses) ∙ count in
    let fits : FitsLinkArea area.left area.top area.width cells s = record {
      screen = record { grid = on_screen.shown.grid; full = on_screen.full };
      pen = on_screen.shown.pen;
      closed = on_screen.closed;
      some = on_screen.shown.some;
      columns = on_screen.shown.columns;
      lines = omega (arith, cell_count, on_screen.shown.rows);
      wide = rows_wide addresses row area.width 0 area.height (fills row addresses area is);
    } in
    let small_x : area.left < 2 ^ 16 = omega (arith, is.within.columns) in
    let small_y : area.top + length rows < 2 ^ 32 = omega (arith, is.within.rows, count) in
    let done = links_drawn area.left area.top addresses rows small_x small_y (rows_are row area.width 0 area.height (fills row addresses area is)) is.writable s area.width fits in
    (done.0, done.1, done.2, done.3, done.4, subst (λ h. ShowsLinkedRows area.left area.top area.width h cells s done.0) cell_count done.5)

plain_rows : (row : ℕ → List LinkedPiece) (y count : ℕ) → map unlinked_bytes (linked_rows_from row y count) ≡ map pieces_bytes (rows_from (λ k. without_links (row k)) y count)
plain_rows row y zero = refl
plain_rows row y (suc count) =
    ap (λ l. l ∷ map unlinked_bytes (linked_rows_from row (suc y) count)) (unlinked_is (row y)) ∙ ap (λ l. pieces_bytes (without_links (row y)) ∷ l) (plain_rows row (suc y) count)

-- THE LAW: a terminal that skips links shows of an area what is shown of it without them
pub areas_are_the_same : (row : ℕ → List LinkedPiece) (addresses : List (Option (List ℕ))) (area : Area) → AreLinkedRows row addresses area
    → (g : Grid) → after_skipping g (linked_rows_bytes row addresses area) ≡ after_bytes g (rows_bytes (λ y. without_links (row y)) area)
areas_are_the_same row addresses area is g =
    let rows : List (List LinkedPiece) = linked_rows_from row 0 area.height in
    let count : length rows ≡ area.height = count_is row 0 area.height in
    let small_x : area.left < 2 ^ 16 = omega (arith, is.within.columns) in
    let small_y : area.top + length rows < 2 ^ 32 = omega (arith, is.within.rows, count) in
    shows_the_same (linked_rows_bytes row addresses area) (drawing area.left area.top (map unlinked_bytes rows))
    (drawings_are_woven area.left area.top addresses rows small_x small_y (rows_are row area.width 0 area.height (fills row addresses area is)) is.writable) g
    ∙ ap (λ (l : List (List ℕ)). after_bytes g (drawing area.left area.top l)) (plain_rows row 0 area.height)

-- ---- cuts and composites

-- a text that is cut shows what it does uncut
pub cuts_show_the_same : (style : ContentStyle) (a b : List ℕ) → IsUtf8 a
    → penned_chars (record { style = style; text = a } ∷ record { style = style; text = b } ∷ []) ≡ penned_chars (record { style = style; text = a ++ b } ∷ [])
cuts_show_the_same style a b text =
    let pen : ℕ → PennedChar = λ c. record { char = c; pen = look_of_style style } in
    sym (append_assoc (map pen (chars a)) (map pen (chars b)) [])
    ∙ ap (λ l. l ++ []) (sym (map-append pen (chars a) (chars b)) ∙ ap (map pen) (sym (chars-append a b text)))

without_both : (ps qs : List LinkedPiece) → without_links (ps ++ qs) ≡ without_links ps ++ without_links qs
without_both ps qs = map-append without_link ps qs

-- pieces in no link, and others after them
step : (ps : List RowPiece) (qs : List LinkedPiece) (rs : List RowPiece) → without_links qs ≡ rs → without_links (map in_no_link ps ++ qs) ≡ ps ++ rs
step ps qs rs e = without_both (map in_no_link ps) qs ∙ ap (λ l. l ++ without_links qs) (without_again ps) ∙ ap (λ l. ps ++ l) e

-- a composite whose compounds have links, without the links
pub composites_say_the_same : (skin : RowSkin) (outer : Option ℕ) (margins : ℕ × ℕ) (filled : Bool) (l : FmtComposite) (said : List LinkedPiece) → SaysCompounds skin l said
    → without_links (composite_links skin outer margins filled l said) ≡ composite_pieces skin outer margins filled l
composites_say_the_same skin outer margins filled l said says =
    let style = line_style skin l.kind in
    let blanks = outer_blanks style.align outer margins l in
    let left = spaces skin.paragraph.compound_style blanks.0 in
    let inner = spaces style.compound_style (inner_blanks l).0 in
    let prefix = prefix_pieces skin l.kind in
    let compounds = map (compound_piece skin style) l.compounds.items in
    let right = spaces style.compound_style (inner_blanks l).1 in
    let end = if filled then spaces skin.paragraph.compound_style blanks.1 else [] in
    let last : without_links (map in_no_link right ++ map in_no_link end) ≡ right ++ end = step right (map in_no_link end) end (without_again end) in
    let text : without_links (said ++ (map in_no_link right ++ map in_no_link end)) ≡ compounds ++ (right ++ end) =
    without_both said (map in_no_link right ++ map in_no_link end) ∙ ap (λ x. x ++ without_links (map in_no_link right ++ map in_no_link end)) says ∙ ap (λ x. compounds ++ x) last in
    step left (map in_no_link inner ++ (map in_no_link prefix ++ (said ++ (map in_no_link right ++ map in_no_link end)))) (inner ++ (prefix ++ (compounds ++ (right ++ end))))
    (step inner (map in_no_link prefix ++ (said ++ (map in_no_link right ++ map in_no_link end))) (prefix ++ (compounds ++ (right ++ end)))
    (step prefix (said ++ (map in_no_link right ++ map in_no_link end)) (compounds ++ (right ++ end)) text))

-- ---- the same characters and pens

-- pieces around others that show the same
around : (left : List RowPiece) (said compounds right : List RowPiece) → penned_chars said ≡ penned_chars compounds → penned_chars (left ++ (said ++ right)) ≡ penned_chars (left ++ (compounds ++ right))
around left said compounds right e =
    penned_both left (said ++ right)
    ∙ ap (λ l. penned_chars left ++ l) (penned_both said right ∙ ap (λ l. l ++ penned_chars right) e ∙ sym (penned_both compounds right))
    ∙ sym (penned_both left (compounds ++ right))

-- a composite whose compounds are cut shows what it does uncut
pub composites_show_the_same : (skin : RowSkin) (outer : Option ℕ) (margins : ℕ × ℕ) (filled : Bool) (l : FmtComposite) (said : List LinkedPiece) → ShowsCompounds skin l said
    → penned_chars (without_links (composite_links skin outer margins filled l said)) ≡ penned_chars (composite_pieces skin outer margins filled l)
composites_show_the_same skin outer margins filled l said shows =
    let style = line_style skin l.kind in
    let blanks = outer_blanks style.align outer margins l in
    let left = spaces skin.paragraph.compound_style blanks.0 in
    let inner = spaces style.compound_style (inner_blanks l).0 in
    let prefix = prefix_pieces skin l.kind in
    let compounds = map (compound_piece skin style) l.compounds.items in
    let right = spaces style.compound_style (inner_blanks l).1 in
    let end = if filled then spaces skin.paragraph.compound_style blanks.1 else [] in
    let last : without_links (map in_no_link right ++ map in_no_link end) ≡ right ++ end = step right (map in_no_link end) end (without_again end) in
    let text : without_links (said ++ (map in_no_link right ++ map in_no_link end)) ≡ without_links said ++ (right ++ end) =
    without_both said (map in_no_link right ++ map in_no_link end) ∙ ap (λ x. without_links said ++ x) last in
    let pieces : without_links (composite_links skin outer margins filled l said) ≡ left ++ (inner ++ (prefix ++ (without_links said ++ (right ++ end)))) =
    step left (map in_no_link inner ++ (map in_no_link prefix ++ (said ++ (map in_no_link right ++ map in_no_link end)))) (inner ++ (prefix ++ (without_links said ++ (right ++ end))))
    (step inner (map in_no_link prefix ++ (said ++ (map in_no_link right ++ map in_no_link end))) (prefix ++ (without_links said ++ (right ++ end)))
    (step prefix (said ++ (map in_no_link right ++ map in_no_link end)) (without_links said ++ (right ++ end)) text)) in
    ap penned_chars pieces
    ∙ penned_both left (inner ++ (prefix ++ (without_links said ++ (right ++ end))))
    ∙ ap (λ x. penned_chars left ++ x)
    (penned_both inner (prefix ++ (without_links said ++ (right ++ end)))
    ∙ ap (λ x. penned_chars inner ++ x) (around prefix (without_links said) compounds (right ++ end) shows)
    ∙ sym (penned_both inner (prefix ++ (compounds ++ (right ++ end)))))
    ∙ sym (penned_both left (inner ++ (prefix ++ (compounds ++ (right ++ end)))))

known_rows : (row : ℕ → List LinkedPiece) (w y count : ℕ) → FillsFrom row w y count → AllByRecursion AreKnown (rows_from (λ k. without_links (row k)) y count)
known_rows row w y zero fill = tt
known_rows row w y (suc count) fill = ((fill y (omega arith) (omega arith)).1, known_rows row w (suc y) count (fill_next row w y count fill))

-- THE LAW: so does an area whose rows are cut
pub areas_show_the_same : (row : ℕ → List LinkedPiece) (addresses : List (Option (List ℕ))) (area : Area) (uncut : ℕ → List RowPiece) → AreLinkedRows row addresses area
    → ((y : ℕ) → penned_chars (without_links (row y)) ≡ penned_chars (uncut y)) → (g : Grid) → IsOnScreen area g
    → (new : Grid) × (after_skipping g (linked_rows_bytes row addresses area) ≡ Some new) × IsGrid new × (new.pen ≡ plain_pen)
    × ShowsRows area.left area.top area.width area.height (λ y. penned_cells (penned_chars (uncut y))) g new
areas_show_the_same row addresses area uncut is same g on_screen =
    let plain : ℕ → List RowPiece = λ y. without_links (row y) in
    let done = area_shown plain area (omega (arith, is.within.columns)) is.within.rows (known_rows row area.width 0 area.height (fills row addresses area is)) is.fill g on_screen in
    let shows : ShowsRows area.left area.top area.width area.height (λ y. penned_cells (penned_chars (plain y))) g done.0 = done.4 in (
      done.0,
      areas_are_the_same row addresses area is g ∙ done.1,
      done.2,
      done.3,
      record {
        width = shows.width;
        height = shows.height;
        inside = λ i j in_width in_height. shows.inside i j in_width in_height ∙ ap (λ (cs : List PennedChar). get_or (penned_cells cs) i blank) (same j);
        outside = shows.outside;
      },
    )

-- ---- drawing

rows_more : (row : ℕ → List LinkedPiece) (y count : ℕ) → linked_rows_from row y (suc count) ≡ linked_rows_from row y count ++ row (y + count) ∷ []
rows_more row y zero = let same : y + 0 ≡ y = omega arith in ap (λ k. row k ∷ []) (sym same)
rows_more row y (suc count) =
    let same : suc y + count ≡ y + suc count = omega arith in
    ap (λ l. row y ∷ l) (rows_more row (suc y) count ∙ ap (λ k. linked_rows_from row (suc y) count ++ row k ∷ []) same)

-- the parts of an area are its rows
pub parts_are : (row : ℕ → List LinkedPiece) (addresses : List (Option (List ℕ))) (area : Area) (count : ℕ) → parts_bytes (row_part row addresses area) count ≡ drawing area.left area.top (map (linked_bytes addresses) (linked_rows_from row 0 count))
parts_are row addresses area zero = refl
parts_are row addresses area (suc count) =
    let before : List (List ℕ) = map (linked_bytes addresses) (linked_rows_from row 0 count) in
    let own : List ℕ = linked_bytes addresses (row count) in
    let number : 0 + count ≡ count = omega arith in
    let before_count : length before ≡ count = length-map (linked_rows_from row 0 count) (linked_bytes addresses) ∙ count_is row 0 count in
    let rows : map (linked_bytes addresses) (linked_rows_from row 0 (suc count)) ≡ before ++ own ∷ [] =
    ap (map (linked_bytes addresses)) (rows_more row 0 count ∙ ap (λ k. linked_rows_from row 0 count ++ row k ∷ []) number) ∙ map-append (linked_bytes addresses) (linked_rows_from row 0 count) (row count ∷ []) in
    ap (λ l. l ++ row_part row addresses area count) (parts_are row addresses area count)
    ∙ sym (ap (drawing area.left area.top) rows ∙ drawing-append area.left area.top before (own ∷ [])
    ∙ ap (λ k. drawing area.left area.top before ++ (move_to_bytes area.left (area.top + k) ++ (own ++ []))) before_count
    ∙ ap (λ l. drawing area.left area.top before ++ (move_to_bytes area.left (area.top + count) ++ l)) (append-nil own))

-- what each row says is what the laws ask
pub rows_asked : (row : ℕ → List LinkedPiece) (addresses : List (Option (List ℕ))) (area : Area) → IsWithinLimits area → FillArea (λ y. without_links (row y)) area → ((y : ℕ) → y < area.height → AreKnown (without_links (row y))) → AreAddresses addresses
    → AreLinkedRows row addresses area
rows_asked row addresses area within fill known writable = record { within = within; fill = fill; known = known; writable = writable }

-- where a device took the rows of an area, they are shown with their links
pub took_shown : (row : ℕ → List LinkedPiece) (addresses : List (Option (List ℕ))) (area : Area) (old new : Trace) → new ≡ after old (linked_rows_bytes row addresses area) → AreLinkedRows row addresses area
    → TookWith old new (AreLinkedRowsShown row addresses area)
took_shown row addresses area old new e is =
    took_with old new (linked_rows_bytes row addresses area) (AreLinkedRowsShown row addresses area) e (links_in_areas row addresses area is)

-- and a terminal that skips links shows them without
pub took_same : (row : ℕ → List LinkedPiece) (addresses : List (Option (List ℕ))) (area : Area) (old new : Trace) → new ≡ after old (linked_rows_bytes row addresses area) → AreLinkedRows row addresses area
    → TookWith old new (IsShownWithoutLinks row area)
took_same row addresses area old new e is =
    took_with old new (linked_rows_bytes row addresses area) (IsShownWithoutLinks row area) e (areas_are_the_same row addresses area is)

-- one row more
pub known_more : (P : ℕ → Type 0) (i : ℕ) → ((y : ℕ) → y < i → P y) → P i → (y : ℕ) → y < i + 1 → P y
known_more P i before own y below =
    ⊎_elim (λ (less : y < i). before y less) (λ (here : i ≤ y). let same : i ≡ y = omega arith in subst P same own) (cases_lt y i)

-- a move, and a row after it
pub part_written : (row : ℕ → List LinkedPiece) (addresses : List (Option (List ℕ))) (area : Area) (y : ℕ) (start moved end : List ℕ) → end ≡ moved ++ linked_bytes addresses (row y) → moved ≡ start ++ move_to_bytes area.left (area.top + y)
    → end ≡ start ++ row_part row addresses area y
part_written row addresses area y start moved end e f =
    e ∙ ap (λ l. l ++ linked_bytes addresses (row y)) f ∙ append_assoc start (move_to_bytes area.left (area.top + y)) (linked_bytes addresses (row y))

-- ---- rows that are given

known_push : (ps : List LinkPiece) (p : LinkPiece) → AreKnown (without_links (map piece_of ps)) → IsStyle p.style → AreKnown (without_links (map piece_of (ps ++ p ∷ [])))
known_push [] p known own = (own, tt)
known_push (q ∷ ps) p known own = (known.0, known_push ps p known.1 own)

-- the colors of one piece more are known
pub style_more : (ps : List LinkPiece) (i : ℕ) (p : LinkPiece) → i < length ps → p ≡ get_or ps i p → AreKnown (without_links (map piece_of (take i ps))) → IsStyle p.style → AreKnown (without_links (map piece_of (take (i + 1) ps)))
style_more ps i p below is before own =
    subst (λ (l : List LinkPiece). AreKnown (without_links (map piece_of l))) (sym (take_more ps i p below))
    (known_push (take i ps) (get_or ps i p) before (subst (λ (q : LinkPiece). IsStyle q.style) is own))

-- so are those of all
pub styles_all : (ps : List LinkPiece) (i : ℕ) → length ps ≤ i → AreKnown (without_links (map piece_of (take i ps))) → AreKnown (without_links (map piece_of ps))
styles_all ps i all known = subst (λ (l : List LinkPiece). AreKnown (without_links (map piece_of l))) (take_all i ps all) known

-- Rows of a page with links.
use Rattle.std.proofs.Common.{◌≡◌, ℕ, zero, suc, ◌<◌, Bool, List, [], ◌∷◌, ◌++◌, map, length, Option, Some, None, refl, sym, ap, ◌∙◌, subst, arith, append_assoc, append-nil}
use Rattle.std.specs.Prelude.{◌||◌}
use Rattle.std.specs.List.{AllByRecursion}
use Rattle.std.proofs.lemmas.List.{map-append, map-id}
use Rattle.mad_term.specs.Styles.{IsStyle, piece_bytes}
use Rattle.mad_term.specs.declared.styles.ContentStyle.{ContentStyle}
use Rattle.mad_screen.specs.Glyph.{Look}
use Rattle.mad_screen.specs.Grid.{Grid}
use Rattle.mad_screen.specs.Terminal.{after_bytes}
use Rattle.mad_screen.specs.Painting.{look_of_style}
use Rattle.mad_style.specs.declared.compound_styles.CompoundStyle.{CompoundStyle}
use Rattle.mad_draw.specs.Pieces.{RowPiece, AreKnown, AreShownPieces, penned_chars, pieces_bytes, spaces}
use Rattle.mad_draw.proofs.PieceLemmas.{known_both}
use Rattle.mad_format.specs.declared.composite.FmtComposite.{FmtComposite}
use Rattle.mad_format.specs.declared.line.FmtLine.{FmtLine}
use Rattle.mad_format.specs.declared.line.FmtLine.TheVariants.{Normal, TableRow, TableRule, HorizontalRule}
use Rattle.mad_format.specs.declared.table.FmtTableRow.{FmtTableRow}
use Rattle.mad_rows.specs.Rows.{line_pieces, margins_of}
use Rattle.mad_rows.specs.declared.row_skin.RowSkin.{RowSkin}
use Rattle.mad_rows.specs.declared.rows.RowPlace.{RowPlace}
use Rattle.mad_links.specs.LinkLaws.{IsWoven}
use Rattle.mad_links.specs.LinkRows.{LinkedPiece, AreLinkedPieces, begun_bytes, change_bytes, linked_bytes, row_cells, unlinked_bytes, written_link}
use Rattle.mad_links.specs.LinkTerminal.{LinkPaints}
use Rattle.mad_links.specs.LinkedAreas.{in_no_link, without_link, without_links}
use Rattle.mad_links.specs.SkippingTerminal.{after_skipping}
use Rattle.mad_links.proofs.AreaLemmas.{pieces_are, unlinked_is}
use Rattle.mad_links.proofs.LinkRowLemmas.{links_are_in_their_cells, rows_are_woven, writes_nothing}
use Rattle.mad_links.proofs.PlainLemmas.{shows_the_same}
use Rattle.mad_mark_runs.specs.declared.mark_runs.MarkRun.{MarkRun}
use Rattle.mad_marks.specs.LineMarks.{has_mark}
use Rattle.mad_marks.specs.RowNumbers.{cells_of, firsts_of}
use Rattle.mad_marked_rows.specs.LinkedRows.{linked_composite, linked_table_row}
use Rattle.mad_marked_rows.specs.LinkedTexts.{pieces_on}
use Rattle.mad_marked_rows.specs.MarkedRows.{marked_line}
use Rattle.mad_marked_rows.specs.Paints.{paint_by}
use Rattle.mad_marked_rows.specs.RowLaws.{AreTexts}
use Rattle.mad_marked_rows.specs.Told.{told_chars, TellsNothing}
use Rattle.mad_marked_rows.proofs.LawLemmas.{chars_told, line_shown, shown_left, shown_right, told_after, told_before}
use Rattle.mad_marked_rows.proofs.LinkLawLemmas.{KeepsKnown, line_known, line_without}
use Rattle.mad_marked_rows.proofs.LinkLemmas.{on_both}
use Rattle.mad_pages.specs.Fronts.{front_of}
use Rattle.mad_pages.specs.PageRows.{RowContent}
use Rattle.mad_page_rows.specs.Faces.{backs, columns_behind, faces, has_ascii_boxes, in_box, line_skin, page_row_pieces}
use Rattle.markdown_linked_pages.specs.LinkedPageRows.{linked_behind, linked_pieces, linked_row_pieces}
use Rattle.markdown_linked_pages.specs.LinkedRowLaws.{IsLinkableRow, LinksAreInTheirCells, LinksChangeNothing, NoAddressNoByte, RowsAreTheSame, RowsAreWoven}
use Rattle.mad_page_rows.specs.ToneLaws.{without_marks}
use Rattle.markdown_linked_pages.proofs.OpenLemmas.{plain_behind, plain_on, some_spaces}

-- ---- what is written

-- a composite, by what the code found
pub text_on : (runs : List MarkRun) (tones : List CompoundStyle) (n : ℕ) (skin : RowSkin) (outer : Option ℕ) (filled : Bool) (line : FmtLine) (l : FmtComposite) (place : RowPlace) (a : List (Option (List ℕ))) (row new : List ℕ × Option ℕ) → tones ≡ [] → line ≡ Normal l
    → place ≡ record { outer = outer; margins = margins_of skin outer l; filled = filled }
    → pieces_on a row (linked_composite (paint_by tones) has_mark runs skin place.outer place.margins place.filled n l) ≡ new → pieces_on a row (linked_pieces runs n skin outer filled line) ≡ new
text_on runs tones n skin outer filled line l place a row new none is at done =
    ap (λ (x : FmtLine). pieces_on a row (linked_pieces runs n skin outer filled x)) is
    ∙ ap (λ (p : RowPlace). pieces_on a row (linked_composite (paint_by []) has_mark runs skin p.outer p.margins p.filled n l)) (sym at)
    ∙ ap (λ (ts : List CompoundStyle). pieces_on a row (linked_composite (paint_by ts) has_mark runs skin place.outer place.margins place.filled n l)) (sym none) ∙ done

-- pieces in no link behind a row in which none is open
pub nothing_on : (a : List (Option (List ℕ))) (old new : List ℕ) (ps : List RowPiece) → new ≡ old ++ pieces_bytes ps → pieces_on a (old, None) (map in_no_link ps) ≡ (new, None)
nothing_on a old new ps is =
    ap (pieces_on a (old, None)) (sym (append-nil (map in_no_link ps))) ∙ plain_on a old ps [] ∙ ap (λ (l : List ℕ). let x : List ℕ × Option ℕ = (l, None) in x) (sym is)

-- any other line
pub line_on : (runs : List MarkRun) (n : ℕ) (skin : RowSkin) (outer : Option ℕ) (filled : Bool) (line : FmtLine) (a : List (Option (List ℕ))) (old new : List ℕ) → ((l : FmtComposite) → line ≡ Normal l → ⊥) → ((table : FmtTableRow) → line ≡ TableRow table → ⊥)
    → new ≡ old ++ pieces_bytes (line_pieces skin outer filled line) → pieces_on a (old, None) (linked_pieces runs n skin outer filled line) ≡ (new, None)
line_on runs n skin outer filled (Normal l) a old new h k is = absurd (h l refl)
line_on runs n skin outer filled (TableRow row) a old new h k is = absurd (k row refl)
line_on runs n skin outer filled (TableRule rule) a old new h k is = nothing_on a old new (line_pieces skin outer filled (TableRule rule)) is
line_on runs n skin outer filled HorizontalRule a old new h k is = nothing_on a old new (line_pieces skin outer filled HorizontalRule) is

-- a row's line, by what the code found
behind_by : (skin : RowSkin) (outer : Option ℕ) (filled : Bool) (row : RowContent) (ascii : Bool) (inner : RowSkin) (columns : Option ℕ) (full : Bool) → ascii ≡ has_ascii_boxes skin → inner ≡ line_skin skin (front_of row)
    → columns ≡ columns_behind ascii outer row.gutters → full ≡ (filled || in_box skin row.gutters) → linked_behind skin outer filled row ≡ linked_pieces row.marks row.number inner columns full row.line
behind_by skin outer filled row ascii inner columns full ascii_is inner_is columns_is full_is =
    let columns_so : columns ≡ columns_behind (has_ascii_boxes skin) outer row.gutters = columns_is ∙ ap (λ (t : Bool). columns_behind t outer row.gutters) ascii_is in
    ap (λ (s : RowSkin). linked_pieces row.marks row.number s (columns_behind (has_ascii_boxes skin) outer row.gutters) (filled || in_box skin row.gutters) row.line) (sym inner_is)
    ∙ ap (λ (o : Option ℕ). linked_pieces row.marks row.number inner o (filled || in_box skin row.gutters) row.line) (sym columns_so)
    ∙ ap (λ (t : Bool). linked_pieces row.marks row.number inner columns t row.line) (sym full_is)

-- a row of a table
pub table_line : (skin : RowSkin) (outer : Option ℕ) (filled : Bool) (row : RowContent) (ascii : Bool) (inner : RowSkin) (columns : Option ℕ) (full : Bool) (a : List (Option (List ℕ))) (old new : List ℕ) (table : FmtTableRow) → ascii ≡ has_ascii_boxes skin
    → inner ≡ line_skin skin (front_of row) → columns ≡ columns_behind ascii outer row.gutters → full ≡ (filled || in_box skin row.gutters) → row.line ≡ TableRow table
    → pieces_on a (old, None) (linked_table_row (paint_by []) has_mark row.marks inner columns full (firsts_of has_mark row.number table.cells.items) table.cells.items) ≡ (new, None) → pieces_on a (old, None) (linked_behind skin outer filled row) ≡ (new, None)
table_line skin outer filled row ascii inner columns full a old new table ascii_is inner_is columns_is full_is is done =
    ap (pieces_on a (old, None)) (behind_by skin outer filled row ascii inner columns full ascii_is inner_is columns_is full_is)
    ∙ ap (λ (x : FmtLine). pieces_on a (old, None) (linked_pieces row.marks row.number inner columns full x)) is ∙ done

-- any other line
pub other_line : (skin : RowSkin) (outer : Option ℕ) (filled : Bool) (row : RowContent) (ascii : Bool) (inner : RowSkin) (columns : Option ℕ) (full : Bool) (a : List (Option (List ℕ))) (old new : List ℕ) → ascii ≡ has_ascii_boxes skin → inner ≡ line_skin skin (front_of row)
    → columns ≡ columns_behind ascii outer row.gutters → full ≡ (filled || in_box skin row.gutters) → ((l : FmtComposite) → row.line ≡ Normal l → ⊥) → ((table : FmtTableRow) → row.line ≡ TableRow table → ⊥)
    → new ≡ old ++ pieces_bytes (line_pieces inner columns full row.line) → pieces_on a (old, None) (linked_behind skin outer filled row) ≡ (new, None)
other_line skin outer filled row ascii inner columns full a old new ascii_is inner_is columns_is full_is other no_row is =
    ap (pieces_on a (old, None)) (behind_by skin outer filled row ascii inner columns full ascii_is inner_is columns_is full_is)
    ∙ line_on row.marks row.number inner columns full row.line a old new other no_row is

-- no side of a box
pub no_side : (a : List (Option (List ℕ))) (row : List ℕ × Option ℕ) (style : CompoundStyle) (n : ℕ) (sides : List RowPiece) → spaces style n ≡ sides → n ≡ 0 → pieces_on a row (map in_no_link sides) ≡ row
no_side a row style n sides are none = ap (λ (ps : List RowPiece). pieces_on a row (map in_no_link ps)) (sym are) ∙ ap (λ (k : ℕ). pieces_on a row (map in_no_link (spaces style k))) none

-- some of them
pub some_sides : (a : List (Option (List ℕ))) (old one new : List ℕ) (was : Option ℕ) (style : CompoundStyle) (n : ℕ) (sides : List RowPiece) → spaces style n ≡ sides → 0 < n → one ≡ old ++ change_bytes a was None → new ≡ one ++ pieces_bytes (spaces style n)
    → pieces_on a (old, was) (map in_no_link sides) ≡ (new, None)
some_sides a old one new was style n sides are some one_is is =
    ap (λ (ps : List RowPiece). pieces_on a (old, was) (map in_no_link ps)) (sym are) ∙ plain_behind a (old, was) (spaces style n) (some_spaces style n some)
    ∙ ap (λ (l : List ℕ). let x : List ℕ × Option ℕ = (l, None) in x) (ap (λ (l : List ℕ). l ++ pieces_bytes (spaces style n)) (sym one_is) ∙ sym is)

-- faces, a line and sides, one behind the other
row_on : (a : List (Option (List ℕ))) (front back : List RowPiece) (line : List LinkedPiece) (old one : List ℕ) (two three : List ℕ × Option ℕ) → one ≡ old ++ pieces_bytes front → pieces_on a (one, None) line ≡ two → pieces_on a two (map in_no_link back) ≡ three
    → pieces_on a (old, None) (map in_no_link front ++ (line ++ map in_no_link back)) ≡ three
row_on a front back line old one two three one_is two_is three_is =
    plain_on a old front (line ++ map in_no_link back) ∙ ap (λ (l : List ℕ). pieces_on a (l, None) (line ++ map in_no_link back)) (sym one_is)
    ∙ on_both a (one, None) line (map in_no_link back) ∙ ap (λ r. pieces_on a r (map in_no_link back)) two_is ∙ three_is

-- pieces behind a row so far, by their bytes and the link that is open then
begun_on : (a : List (Option (List ℕ))) (row : List ℕ) (was : Option ℕ) (ps : List LinkedPiece) → pieces_on a (row, was) ps ≡ (row ++ (begun_bytes a was ps).0, (begun_bytes a was ps).1)
begun_on a row was [] = ap (λ (l : List ℕ). let x : List ℕ × Option ℕ = (l, was) in x) (sym (append-nil row))
begun_on a row was (p ∷ ps) =
    let now = written_link a p.link in
    let change = change_bytes a was now in
    let own = piece_bytes p.style p.text in
    let rest = begun_bytes a now ps in
    begun_on a (row ++ (change ++ own)) now ps
    ∙ ap (λ (l : List ℕ). let x : List ℕ × Option ℕ = (l, rest.1) in x) (append_assoc row (change ++ own) rest.0 ∙ ap (λ (l : List ℕ). row ++ l) (append_assoc change own rest.0))

-- so a row is written
pub row_begun : (a : List (Option (List ℕ))) (front back : List RowPiece) (line : List LinkedPiece) (old one new : List ℕ) (two : List ℕ × Option ℕ) (now : Option ℕ) → one ≡ old ++ pieces_bytes front → pieces_on a (one, None) line ≡ two → pieces_on a two (map in_no_link back) ≡ (new, now)
    → let ps = map in_no_link front ++ (line ++ map in_no_link back) in (new ≡ old ++ (begun_bytes a None ps).0) × (now ≡ (begun_bytes a None ps).1)
row_begun a front back line old one new two now one_is two_is three_is =
    let ps = map in_no_link front ++ (line ++ map in_no_link back) in
    let same = sym (row_on a front back line old one two (new, now) one_is two_is three_is) ∙ begun_on a old None ps in
    (ap (λ (x : List ℕ × Option ℕ). x.0) same, ap (λ (x : List ℕ × Option ℕ). x.1) same)

-- ---- without links

plain_without : (ps : List RowPiece) → without_links (map in_no_link ps) ≡ ps
plain_without [] = refl
plain_without (p ∷ ps) = ap (λ l. p ∷ l) (plain_without ps)

both : (ps qs : List LinkedPiece) (xs ys : List RowPiece) → without_links ps ≡ xs → without_links qs ≡ ys → without_links (ps ++ qs) ≡ xs ++ ys
both ps qs xs ys a b = map-append without_link ps qs ∙ ap (λ l. l ++ without_links qs) a ∙ ap (λ l. xs ++ l) b

known_left : (ps qs : List RowPiece) → AreKnown (ps ++ qs) → AreKnown ps
known_left [] qs h = tt
known_left (p ∷ ps) qs h = (h.0, known_left ps qs h.1)

known_right : (ps qs : List RowPiece) → AreKnown (ps ++ qs) → AreKnown qs
known_right [] qs h = h
known_right (p ∷ ps) qs h = known_right ps qs h.1

-- no mark of a link makes anything of a style
paints_nothing : (v : ℕ) (style : ContentStyle) → paint_by [] v style ≡ style
paints_nothing zero style = refl
paints_nothing (suc v) style = refl

pieces_shown : (runs : List MarkRun) (n : ℕ) (skin : RowSkin) (outer : Option ℕ) (filled : Bool) (line : FmtLine) → AreShownPieces (line_pieces skin outer filled line) → AreShownPieces (without_links (linked_pieces runs n skin outer filled line))
pieces_shown runs n skin outer filled line h =
    let ns = firsts_of has_mark n (cells_of line) in
    subst AreShownPieces (sym (line_without (paint_by []) has_mark runs skin outer filled ns line)) (line_shown (paint_by []) has_mark runs skin outer filled ns line h)

keeps_known : KeepsKnown (paint_by [])
keeps_known v style h = subst IsStyle (sym (paints_nothing v style)) h

pieces_known : (runs : List MarkRun) (n : ℕ) (skin : RowSkin) (outer : Option ℕ) (filled : Bool) (line : FmtLine) → AreKnown (line_pieces skin outer filled line) → AreKnown (without_links (linked_pieces runs n skin outer filled line))
pieces_known runs n skin outer filled line h =
    let ns = firsts_of has_mark n (cells_of line) in
    subst AreKnown (sym (line_without (paint_by []) has_mark runs skin outer filled ns line)) (line_known (paint_by []) has_mark runs skin outer filled ns line keeps_known h)

shown_both : (ps qs : List RowPiece) → AreShownPieces ps → AreShownPieces qs → AreShownPieces (ps ++ qs)
shown_both [] qs a b = b
shown_both (p ∷ ps) qs a b = (a.0, shown_both ps qs a.1 b)

-- a row's pieces without their links: its faces, what is left of its line, and sides
row_without : (skin : RowSkin) (outer : Option ℕ) (filled : Bool) (row : RowContent)
    → without_links (linked_row_pieces skin outer filled row) ≡ faces skin row.gutters row.fresh ++ (without_links (linked_behind skin outer filled row) ++ backs skin row.gutters)
row_without skin outer filled row =
    let front : List RowPiece = faces skin row.gutters row.fresh in
    let side : List RowPiece = backs skin row.gutters in
    let line : List LinkedPiece = linked_behind skin outer filled row in
    both (map in_no_link front) (line ++ map in_no_link side) front (without_links line ++ side) (plain_without front) (both line (map in_no_link side) (without_links line) side refl (plain_without side))

-- ---- on terminals

row_linked : (skin : RowSkin) (outer : Option ℕ) (filled : Bool) (row : RowContent) (addresses : List (Option (List ℕ))) → IsLinkableRow skin outer filled row addresses → AreLinkedPieces (linked_row_pieces skin outer filled row)
row_linked skin outer filled row addresses is =
    let front : List RowPiece = faces skin row.gutters row.fresh in
    let side : List RowPiece = backs skin row.gutters in
    let inner : RowSkin = line_skin skin (front_of row) in
    let columns : Option ℕ = columns_behind (has_ascii_boxes skin) outer row.gutters in
    let full : Bool = filled || in_box skin row.gutters in
    let plain : List RowPiece = line_pieces inner columns full row.line in
    let line : List RowPiece = without_links (linked_behind skin outer filled row) in
    let known : AreKnown (plain ++ side) = known_right front (plain ++ side) is.known in
    let shown : AreShownPieces (plain ++ side) = shown_right front (plain ++ side) is.shown in
    let all_known : AreKnown (front ++ (line ++ side)) =
    known_both front (line ++ side) (known_left front (plain ++ side) is.known) (known_both line side (pieces_known row.marks row.number inner columns full row.line (known_left plain side known)) (known_right plain side known)) in
    let all_shown : AreShownPieces (front ++ (line ++ side)) =
    shown_both front (line ++ side) (shown_left front (plain ++ side) is.shown) (shown_both line side (pieces_shown row.marks row.number inner columns full row.line (shown_left plain side shown)) (shown_right plain side shown)) in
    pieces_are (linked_row_pieces skin outer filled row) (subst AreKnown (sym (row_without skin outer filled row)) all_known) (subst AreShownPieces (sym (row_without skin outer filled row)) all_shown)

-- THE LAW: what is written is the pieces, with commands of links between them
pub row_woven : RowsAreWoven
row_woven skin outer filled row addresses is =
    let ps = linked_row_pieces skin outer filled row in
    subst (λ (bytes : List ℕ). IsWoven (linked_bytes addresses ps) bytes) (unlinked_is ps) (rows_are_woven addresses ps (row_linked skin outer filled row addresses is) is.writable)

-- THE LAW: a terminal that passes over links ends as the plain one without them
pub row_same : RowsAreTheSame
row_same skin outer filled row addresses is g =
    let ps = linked_row_pieces skin outer filled row in
    shows_the_same (linked_bytes addresses ps) (pieces_bytes (without_links ps)) (row_woven skin outer filled row addresses is) g

-- THE LAW: each cell is in the link of its part
pub row_leads : LinksAreInTheirCells
row_leads skin outer filled row addresses is = links_are_in_their_cells addresses (linked_row_pieces skin outer filled row) (row_linked skin outer filled row addresses is) is.writable

none_written : (link : Option ℕ) → written_link [] link ≡ None
none_written None = refl
none_written (Some zero) = refl
none_written (Some (suc n)) = refl

all_unwritten : (ps : List LinkedPiece) → AllByRecursion (λ p. written_link [] p.link ≡ None) ps
all_unwritten [] = tt
all_unwritten (p ∷ ps) = (none_written p.link, all_unwritten ps)

-- THE LAW: without an address nothing is written of links
pub row_unaddressed : NoAddressNoByte
row_unaddressed skin outer filled row = let ps = linked_row_pieces skin outer filled row in writes_nothing [] ps (all_unwritten ps) ∙ unlinked_is ps

-- ---- what is shown

-- all of a pen
abbrev all_told : Look → Look
all_told pen = pen

tells_all : TellsNothing all_told (paint_by [])
tells_all v style = ap look_of_style (paints_nothing v style)

line_told : (runs : List MarkRun) (n : ℕ) (skin : RowSkin) (outer : Option ℕ) (filled : Bool) (line : FmtLine) → AreTexts line
    → told_chars all_told (without_links (linked_pieces runs n skin outer filled line)) ≡ told_chars all_told (line_pieces skin outer filled line)
line_told runs n skin outer filled line h =
    let ns = firsts_of has_mark n (cells_of line) in
    ap (told_chars all_told) (line_without (paint_by []) has_mark runs skin outer filled ns line) ∙ chars_told all_told (paint_by []) has_mark runs skin outer filled ns line tells_all h

-- THE LAW: a row shows the same characters with the same pens
pub row_unchanged : LinksChangeNothing
row_unchanged skin outer filled row h =
    let front : List RowPiece = faces skin row.gutters row.fresh in
    let side : List RowPiece = backs skin row.gutters in
    let inner : RowSkin = line_skin skin (front_of row) in
    let columns : Option ℕ = columns_behind (has_ascii_boxes skin) outer row.gutters in
    let full : Bool = filled || in_box skin row.gutters in
    let plain : List RowPiece = line_pieces inner columns full row.line in
    let line : List RowPiece = without_links (linked_behind skin outer filled row) in
    let told : told_chars all_told (front ++ (line ++ side)) ≡ told_chars all_told (front ++ (plain ++ side)) =
    told_after all_told front (line ++ side) (plain ++ side) (told_before all_told line plain side (line_told row.marks row.number inner columns full row.line h)) in
    ap penned_chars (row_without skin outer filled row) ∙ sym (map-id (penned_chars (front ++ (line ++ side)))) ∙ told ∙ map-id (penned_chars (front ++ (plain ++ side)))

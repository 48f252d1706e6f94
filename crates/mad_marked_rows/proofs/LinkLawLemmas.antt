-- Rows with links: what is shown of them, and where they lead.
use Rattle.std.proofs.Common.{◌≡◌, ℕ, zero, suc, ◌+◌, Bool, true, false, cond, List, [], ◌∷◌, ◌++◌, map, drop, Option, Some, None, refl, sym, ap, ◌∙◌, subst}
use Rattle.std.specs.Prelude.{chars, slice_index, if◌then◌else◌}
use Rattle.std.specs.List.{AllByRecursion, flat_map}
use Rattle.std.proofs.lemmas.List.{map-append}
use Rattle.mad_md.specs.Flagged.{Flags, flagged_of, flags_of, run_of}
use Rattle.mad_md.specs.declared.compound.Compound.{Compound}
use Rattle.mad_term.specs.declared.styles.ContentStyle.{ContentStyle}
use Rattle.mad_term.specs.Styles.{IsStyle}
use Rattle.mad_screen.specs.Glyph.{Glyph, Look}
use Rattle.mad_screen.specs.Grid.{Grid}
use Rattle.mad_screen.specs.Painting.{piece_cells}
use Rattle.mad_screen.specs.Terminal.{after_bytes}
use Rattle.mad_style.specs.declared.kinds.CompositeKind.{CompositeKind}
use Rattle.mad_style.specs.declared.line_styles.LineStyle.{LineStyle}
use Rattle.mad_draw.specs.Pieces.{RowPiece, AreKnown, AreShownPieces, pieces_bytes, spaces}
use Rattle.mad_draw.proofs.CellLemmas.{cells_of_pieces}
use Rattle.mad_draw.proofs.PieceLemmas.{known_both, pieces_cells}
use Rattle.mad_format.specs.declared.composite.FmtComposite.{FmtComposite}
use Rattle.mad_format.specs.declared.line.FmtLine.{FmtLine}
use Rattle.mad_format.specs.declared.line.FmtLine.TheVariants.{Normal, TableRow, TableRule, HorizontalRule}
use Rattle.mad_rows.specs.RowStyles.{compound_style, line_style}
use Rattle.mad_rows.specs.Rows.{cell_margins, cell_pieces, composite_pieces, compound_piece, inner_blanks, left_of_place, line_pieces, margins_of, outer_blanks, prefix_pieces, right_of_place, row_columns, vertical_piece}
use Rattle.mad_rows.specs.declared.row_skin.RowSkin.{RowSkin}
use Rattle.mad_links.specs.LinkRows.{LinkedPiece, AreLinkedPieces, linked_bytes, piece_linked_cells, row_cells, target, unlinked_bytes, written_link}
use Rattle.mad_links.specs.LinkTerminal.{LinkedCell, LinkPaints}
use Rattle.mad_links.specs.SkippingTerminal.{after_skipping}
use Rattle.mad_links.proofs.PlainLemmas.{shows_the_same}
use Rattle.mad_links.proofs.LinkRowLemmas.{links_are_in_their_cells, rows_are_woven, writes_nothing}
use Rattle.mad_links.specs.LinkedAreas.{in_no_link, without_link, without_links}
use Rattle.mad_links.proofs.AreaLemmas.{pieces_are, unlinked_is}
use Rattle.mad_mark_runs.specs.declared.mark_runs.MarkRun.{MarkRun}
use Rattle.mad_marks.specs.RowMarks.{counted}
use Rattle.mad_marked_rows.specs.Told.{told_cell, told_cells, TellsNothing}
use Rattle.mad_marked_rows.specs.LinkedTexts.{part_link}
use Rattle.mad_marked_rows.specs.MarkedTexts.{LetterPart, letters_of, part_piece, parts_of}
use Rattle.mad_marked_rows.specs.RowLaws.{AreTexts}
use Rattle.mad_marked_rows.specs.LinkLaws.{IsLinkableLine}
use Rattle.mad_marked_rows.specs.LinkedRows.{linked_cells, linked_composite, linked_compound, linked_compounds, linked_line}
use Rattle.mad_marked_rows.specs.MarkedRows.{marked_cells, marked_composite, marked_compound, marked_compounds, marked_line}
use Rattle.mad_marked_rows.proofs.LawLemmas.{line_shown, line_told}

-- ---- without links

parts_without : (paint : ℕ → ContentStyle → ContentStyle) (style : ContentStyle) (ps : List LetterPart) → without_links (map (part_link paint style) ps) ≡ map (part_piece paint style) ps
parts_without paint style [] = refl
parts_without paint style (p ∷ ps) = ap (λ l. part_piece paint style p ∷ l) (parts_without paint style ps)

compound_by : (paint : ℕ → ContentStyle → ContentStyle) (style : ContentStyle) (ps : List LetterPart) (own : RowPiece) (t : Bool)
    → without_links (cond t (map (part_link paint style) ps) (in_no_link own ∷ [])) ≡ cond t (map (part_piece paint style) ps) (own ∷ [])
compound_by paint style ps own true = parts_without paint style ps
compound_by paint style ps own false = refl

compounds_without : (paint : ℕ → ContentStyle → ContentStyle) (has : Flags → Bool) (runs : List MarkRun) (skin : RowSkin) (style : LineStyle) (n : ℕ) (ks : List Compound) → without_links (linked_compounds paint has runs skin style n ks) ≡ marked_compounds paint has runs skin style n ks
compounds_without paint has runs skin style n [] = refl
compounds_without paint has runs skin style n (k ∷ ks) =
    let rest : ℕ = n + counted has (flagged_of k) in
    let look : ContentStyle = (compound_style skin style (run_of k)).object_style in
    map-append without_link (linked_compound paint has runs skin style n k) (linked_compounds paint has runs skin style rest ks)
    ∙ ap (λ l. l ++ without_links (linked_compounds paint has runs skin style rest ks)) (compound_by paint look (parts_of (letters_of runs n (chars k.src.now))) (compound_piece skin style k) (has (flags_of k)))
    ∙ ap (λ l. marked_compound paint has runs skin style n k ++ l) (compounds_without paint has runs skin style rest ks)

plain_without : (ps : List RowPiece) → without_links (map in_no_link ps) ≡ ps
plain_without [] = refl
plain_without (p ∷ ps) = ap (λ l. p ∷ l) (plain_without ps)

step : (ps : List RowPiece) (qs : List LinkedPiece) (rs : List RowPiece) → without_links qs ≡ rs → without_links (map in_no_link ps ++ qs) ≡ ps ++ rs
step [] qs rs e = e
step (p ∷ ps) qs rs e = ap (λ l. p ∷ l) (step ps qs rs e)

both : (ps qs : List LinkedPiece) (xs ys : List RowPiece) → without_links ps ≡ xs → without_links qs ≡ ys → without_links (ps ++ qs) ≡ xs ++ ys
both ps qs xs ys a b = map-append without_link ps qs ∙ ap (λ l. l ++ without_links qs) a ∙ ap (λ l. xs ++ l) b

composite_without : (paint : ℕ → ContentStyle → ContentStyle) (has : CompositeKind → Flags → Bool) (runs : List MarkRun) (skin : RowSkin) (outer : Option ℕ) (margins : ℕ × ℕ) (filled : Bool) (n : ℕ) (l : FmtComposite)
    → without_links (linked_composite paint has runs skin outer margins filled n l) ≡ marked_composite paint has runs skin outer margins filled n l
composite_without paint has runs skin outer margins filled n l =
    let style = line_style skin l.kind in
    let blanks = outer_blanks style.align outer margins l in
    let after : List RowPiece = spaces style.compound_style (inner_blanks l).1 in
    let last : List RowPiece = if filled then spaces skin.paragraph.compound_style blanks.1 else [] in
    let said = linked_compounds paint (has l.kind) runs skin style n l.compounds.items in
    step (spaces skin.paragraph.compound_style blanks.0) _ _ (step (spaces style.compound_style (inner_blanks l).0) _ _ (step (prefix_pieces skin l.kind) _ _ (
    both said (map in_no_link after ++ map in_no_link last) (marked_compounds paint (has l.kind) runs skin style n l.compounds.items) (after ++ last)
    (compounds_without paint (has l.kind) runs skin style n l.compounds.items) (step after (map in_no_link last) last (plain_without last)))))

cells_without : (paint : ℕ → ContentStyle → ContentStyle) (has : CompositeKind → Flags → Bool) (runs : List MarkRun) (skin : RowSkin) (ns : List ℕ) (cs : List FmtComposite) → without_links (linked_cells paint has runs skin ns cs) ≡ marked_cells paint has runs skin ns cs
cells_without paint has runs skin ns [] = refl
cells_without paint has runs skin ns (c ∷ cs) =
    ap (λ l. vertical_piece skin ∷ l) (both (linked_composite paint has runs skin None (cell_margins skin) true (slice_index ns 0) c) (linked_cells paint has runs skin (drop 1 ns) cs)
    (marked_composite paint has runs skin None (cell_margins skin) true (slice_index ns 0) c) (marked_cells paint has runs skin (drop 1 ns) cs)
    (composite_without paint has runs skin None (cell_margins skin) true (slice_index ns 0) c) (cells_without paint has runs skin (drop 1 ns) cs))

-- THE LAW: the pieces of a line with links, without the links
pub line_without : (paint : ℕ → ContentStyle → ContentStyle) (has : CompositeKind → Flags → Bool) (runs : List MarkRun) (skin : RowSkin) (outer : Option ℕ) (filled : Bool) (numbers : List ℕ) (line : FmtLine)
    → without_links (linked_line paint has runs skin outer filled numbers line) ≡ marked_line paint has runs skin outer filled numbers line
line_without paint has runs skin outer filled numbers (Normal l) = composite_without paint has runs skin outer (margins_of skin outer l) filled (slice_index numbers 0) l
line_without paint has runs skin outer filled numbers (TableRow row) =
    let cells = row.cells.items in
    let right : List RowPiece = if filled then spaces skin.paragraph.compound_style (right_of_place skin.table.align (row_columns skin cells) outer) else [] in
    let text = linked_cells paint has runs skin numbers cells in
    let marked_text = marked_cells paint has runs skin numbers cells in
    step (spaces skin.paragraph.compound_style (left_of_place skin.table.align (row_columns skin cells) outer)) _ _ (
    both (text ++ in_no_link (vertical_piece skin) ∷ []) (map in_no_link right) (marked_text ++ vertical_piece skin ∷ []) right
    (both text (in_no_link (vertical_piece skin) ∷ []) marked_text (vertical_piece skin ∷ []) (cells_without paint has runs skin numbers cells) refl) (plain_without right))
line_without paint has runs skin outer filled numbers (TableRule rule) = plain_without (line_pieces skin outer filled (TableRule rule))
line_without paint has runs skin outer filled numbers HorizontalRule = plain_without (line_pieces skin outer filled HorizontalRule)

-- ---- no address

none_written : (link : Option ℕ) → written_link [] link ≡ None
none_written None = refl
none_written (Some zero) = refl
none_written (Some (suc n)) = refl

all_unwritten : (ps : List LinkedPiece) → AllByRecursion (λ p. written_link [] p.link ≡ None) ps
all_unwritten [] = tt
all_unwritten (p ∷ ps) = (none_written p.link, all_unwritten ps)

-- THE LAW: with no address nothing is written of links
pub line_unaddressed : (paint : ℕ → ContentStyle → ContentStyle) (has : CompositeKind → Flags → Bool) (runs : List MarkRun) (skin : RowSkin) (outer : Option ℕ) (filled : Bool) (numbers : List ℕ) (line : FmtLine)
    → linked_bytes [] (linked_line paint has runs skin outer filled numbers line) ≡ pieces_bytes (marked_line paint has runs skin outer filled numbers line)
line_unaddressed paint has runs skin outer filled numbers line =
    let ps = linked_line paint has runs skin outer filled numbers line in
    writes_nothing [] ps (all_unwritten ps) ∙ unlinked_is ps ∙ ap pieces_bytes (line_without paint has runs skin outer filled numbers line)

-- ---- colors

known_left : (ps qs : List RowPiece) → AreKnown (ps ++ qs) → AreKnown ps
known_left [] qs h = tt
known_left (p ∷ ps) qs h = (h.0, known_left ps qs h.1)

known_right : (ps qs : List RowPiece) → AreKnown (ps ++ qs) → AreKnown qs
known_right [] qs h = h
known_right (p ∷ ps) qs h = known_right ps qs h.1

known_after : (xs ps qs : List RowPiece) → (AreKnown qs → AreKnown ps) → AreKnown (xs ++ qs) → AreKnown (xs ++ ps)
known_after xs ps qs f h = known_both xs ps (known_left xs qs h) (f (known_right xs qs h))

known_before : (ps qs xs : List RowPiece) → (AreKnown qs → AreKnown ps) → AreKnown (qs ++ xs) → AreKnown (ps ++ xs)
known_before ps qs xs f h = known_both ps xs (f (known_left qs xs h)) (known_right qs xs h)

-- where the numbers of a style's colors are bytes, so are those of what marks make of it
abbrev pub KeepsKnown : (ℕ → ContentStyle → ContentStyle) → Type 0
KeepsKnown paint = (v : ℕ) (style : ContentStyle) → IsStyle style → IsStyle (paint v style)

parts_known : (paint : ℕ → ContentStyle → ContentStyle) (style : ContentStyle) (ps : List LetterPart) → KeepsKnown paint → IsStyle style → AreKnown (map (part_piece paint style) ps)
parts_known paint style [] keeps h = tt
parts_known paint style (p ∷ ps) keeps h = (keeps p.value style h, parts_known paint style ps keeps h)

known_by : (paint : ℕ → ContentStyle → ContentStyle) (own : RowPiece) (ps : List LetterPart) (t : Bool) → KeepsKnown paint → IsStyle own.style → AreKnown (cond t (map (part_piece paint own.style) ps) (own ∷ []))
known_by paint own ps true keeps h = parts_known paint own.style ps keeps h
known_by paint own ps false keeps h = (h, tt)

compounds_known : (paint : ℕ → ContentStyle → ContentStyle) (has : Flags → Bool) (runs : List MarkRun) (skin : RowSkin) (style : LineStyle) (n : ℕ) (ks : List Compound) → KeepsKnown paint → AreKnown (map (compound_piece skin style) ks)
    → AreKnown (marked_compounds paint has runs skin style n ks)
compounds_known paint has runs skin style n [] keeps h = tt
compounds_known paint has runs skin style n (k ∷ ks) keeps h =
    known_both (marked_compound paint has runs skin style n k) (marked_compounds paint has runs skin style (n + counted has (flagged_of k)) ks)
    (known_by paint (compound_piece skin style k) (parts_of (letters_of runs n (chars k.src.now))) (has (flags_of k)) keeps h.0) (compounds_known paint has runs skin style (n + counted has (flagged_of k)) ks keeps h.1)

composite_known : (paint : ℕ → ContentStyle → ContentStyle) (has : CompositeKind → Flags → Bool) (runs : List MarkRun) (skin : RowSkin) (outer : Option ℕ) (margins : ℕ × ℕ) (filled : Bool) (n : ℕ) (l : FmtComposite) → KeepsKnown paint
    → AreKnown (composite_pieces skin outer margins filled l) → AreKnown (marked_composite paint has runs skin outer margins filled n l)
composite_known paint has runs skin outer margins filled n l keeps =
    let style = line_style skin l.kind in
    let blanks = outer_blanks style.align outer margins l in
    let end : List RowPiece = spaces style.compound_style (inner_blanks l).1 ++ (if filled then spaces skin.paragraph.compound_style blanks.1 else []) in
    known_after (spaces skin.paragraph.compound_style blanks.0) _ _ (
    known_after (spaces style.compound_style (inner_blanks l).0) _ _ (
    known_after (prefix_pieces skin l.kind) _ _ (
    known_before (marked_compounds paint (has l.kind) runs skin style n l.compounds.items) (map (compound_piece skin style) l.compounds.items) end (
    compounds_known paint (has l.kind) runs skin style n l.compounds.items keeps))))

cells_known : (paint : ℕ → ContentStyle → ContentStyle) (has : CompositeKind → Flags → Bool) (runs : List MarkRun) (skin : RowSkin) (ns : List ℕ) (cs : List FmtComposite) → KeepsKnown paint → AreKnown (flat_map (cell_pieces skin) cs)
    → AreKnown (marked_cells paint has runs skin ns cs)
cells_known paint has runs skin ns [] keeps h = tt
cells_known paint has runs skin ns (c ∷ cs) keeps h =
    let own : List RowPiece = vertical_piece skin ∷ marked_composite paint has runs skin None (cell_margins skin) true (slice_index ns 0) c in
    let first = known_left (cell_pieces skin c) (flat_map (cell_pieces skin) cs) h in
    known_both own (marked_cells paint has runs skin (drop 1 ns) cs) (first.0, composite_known paint has runs skin None (cell_margins skin) true (slice_index ns 0) c keeps first.1)
    (cells_known paint has runs skin (drop 1 ns) cs keeps (known_right (cell_pieces skin c) (flat_map (cell_pieces skin) cs) h))

-- where the numbers of a line's colors are bytes, they are so with marks
pub line_known : (paint : ℕ → ContentStyle → ContentStyle) (has : CompositeKind → Flags → Bool) (runs : List MarkRun) (skin : RowSkin) (outer : Option ℕ) (filled : Bool) (numbers : List ℕ) (line : FmtLine) → KeepsKnown paint → AreKnown (line_pieces skin outer filled line)
    → AreKnown (marked_line paint has runs skin outer filled numbers line)
line_known paint has runs skin outer filled numbers (Normal l) keeps h = composite_known paint has runs skin outer (margins_of skin outer l) filled (slice_index numbers 0) l keeps h
line_known paint has runs skin outer filled numbers (TableRow row) keeps h =
    let cells = row.cells.items in
    let right : List RowPiece = if filled then spaces skin.paragraph.compound_style (right_of_place skin.table.align (row_columns skin cells) outer) else [] in
    known_after (spaces skin.paragraph.compound_style (left_of_place skin.table.align (row_columns skin cells) outer)) _ _ (
    known_before (marked_cells paint has runs skin numbers cells ++ vertical_piece skin ∷ []) (flat_map (cell_pieces skin) cells ++ vertical_piece skin ∷ []) right (
    known_before (marked_cells paint has runs skin numbers cells) (flat_map (cell_pieces skin) cells) (vertical_piece skin ∷ []) (cells_known paint has runs skin numbers cells keeps))) h
line_known paint has runs skin outer filled numbers (TableRule rule) keeps h = h
line_known paint has runs skin outer filled numbers HorizontalRule keeps h = h

-- ---- on terminals

line_linked : (paint : ℕ → ContentStyle → ContentStyle) (has : CompositeKind → Flags → Bool) (runs : List MarkRun) (skin : RowSkin) (outer : Option ℕ) (filled : Bool) (numbers : List ℕ) (line : FmtLine) (addresses : List (Option (List ℕ)))
    → IsLinkableLine paint skin outer filled line addresses → AreLinkedPieces (linked_line paint has runs skin outer filled numbers line)
line_linked paint has runs skin outer filled numbers line addresses is =
    let e = sym (line_without paint has runs skin outer filled numbers line) in
    pieces_are (linked_line paint has runs skin outer filled numbers line) (subst AreKnown e (line_known paint has runs skin outer filled numbers line is.paint_known is.known))
    (subst AreShownPieces e (line_shown paint has runs skin outer filled numbers line is.shown))

-- THE LAW: a terminal that skips links shows of a line with links what is shown of it without them
pub line_same : (paint : ℕ → ContentStyle → ContentStyle) (has : CompositeKind → Flags → Bool) (runs : List MarkRun) (skin : RowSkin) (outer : Option ℕ) (filled : Bool) (numbers : List ℕ) (line : FmtLine) (addresses : List (Option (List ℕ)))
    → IsLinkableLine paint skin outer filled line addresses
    → (g : Grid) → after_skipping g (linked_bytes addresses (linked_line paint has runs skin outer filled numbers line)) ≡ after_bytes g (pieces_bytes (marked_line paint has runs skin outer filled numbers line))
line_same paint has runs skin outer filled numbers line addresses is g =
    let ps = linked_line paint has runs skin outer filled numbers line in
    shows_the_same (linked_bytes addresses ps) (unlinked_bytes ps) (rows_are_woven addresses ps (line_linked paint has runs skin outer filled numbers line addresses is) is.writable) g
    ∙ ap (after_bytes g) (unlinked_is ps ∙ ap pieces_bytes (line_without paint has runs skin outer filled numbers line))

-- THE LAW: a terminal that knows links shows each character in the link of its mark
pub line_leads : (paint : ℕ → ContentStyle → ContentStyle) (has : CompositeKind → Flags → Bool) (runs : List MarkRun) (skin : RowSkin) (outer : Option ℕ) (filled : Bool) (numbers : List ℕ) (line : FmtLine) (addresses : List (Option (List ℕ)))
    → IsLinkableLine paint skin outer filled line addresses
    → LinkPaints (linked_bytes addresses (linked_line paint has runs skin outer filled numbers line)) (row_cells addresses (linked_line paint has runs skin outer filled numbers line))
line_leads paint has runs skin outer filled numbers line addresses is =
    links_are_in_their_cells addresses (linked_line paint has runs skin outer filled numbers line) (line_linked paint has runs skin outer filled numbers line addresses is) is.writable

-- ---- cells

piece_glyphs : (tell : Look → Look) (link : _) (gs : List Glyph) → map (λ (c : LinkedCell). told_cell tell c.glyph) (map (λ g. record { glyph = g; link = link }) gs) ≡ map (told_cell tell) gs
piece_glyphs tell link [] = refl
piece_glyphs tell link (g ∷ gs) = ap (λ l. told_cell tell g ∷ l) (piece_glyphs tell link gs)

row_glyphs : (tell : Look → Look) (addresses : List (Option (List ℕ))) (ps : List LinkedPiece) → map (λ (c : LinkedCell). told_cell tell c.glyph) (row_cells addresses ps) ≡ map (told_cell tell) (pieces_cells (without_links ps))
row_glyphs tell addresses [] = refl
row_glyphs tell addresses (p ∷ ps) =
    map-append (λ (c : LinkedCell). told_cell tell c.glyph) (piece_linked_cells addresses p) (row_cells addresses ps)
    ∙ ap (λ l. l ++ map (λ (c : LinkedCell). told_cell tell c.glyph) (row_cells addresses ps)) (piece_glyphs tell (target addresses p.link) (piece_cells p.style p.text))
    ∙ ap (λ l. map (told_cell tell) (piece_cells p.style p.text) ++ l) (row_glyphs tell addresses ps)
    ∙ sym (map-append (told_cell tell) (piece_cells p.style p.text) (pieces_cells (without_links ps)))

-- THE LAW: the cells of a line with links are those without marks, but for what marks make of styles
pub linked_told : (tell : Look → Look) (paint : ℕ → ContentStyle → ContentStyle) (has : CompositeKind → Flags → Bool) (runs : List MarkRun) (skin : RowSkin) (outer : Option ℕ) (filled : Bool) (numbers : List ℕ) (line : FmtLine) (addresses : List (Option (List ℕ)))
    → TellsNothing tell paint → AreTexts line → AreShownPieces (line_pieces skin outer filled line)
    → map (λ c. told_cell tell c.glyph) (row_cells addresses (linked_line paint has runs skin outer filled numbers line)) ≡ told_cells tell (line_pieces skin outer filled line)
linked_told tell paint has runs skin outer filled numbers line addresses nothing texts shown =
    let marked_is = marked_line paint has runs skin outer filled numbers line in
    row_glyphs tell addresses (linked_line paint has runs skin outer filled numbers line)
    ∙ ap (λ ps. map (told_cell tell) (pieces_cells ps)) (line_without paint has runs skin outer filled numbers line)
    ∙ ap (map (told_cell tell)) (sym (cells_of_pieces marked_is (line_shown paint has runs skin outer filled numbers line shown)))
    ∙ line_told tell paint has runs skin outer filled numbers line nothing texts

-- Marks change nothing that is told.
use Rattle.std.proofs.Common.{◌≡◌, ℕ, suc, ◌+◌, Bool, true, false, List, [], ◌∷◌, ◌++◌, map, length, drop, Option, None, refl, sym, ap, ◌∙◌, subst}
use Rattle.std.specs.Prelude.{slice_index, if◌then◌else◌}
use Rattle.std.specs.List.{AllByRecursion, flat_map}
use Rattle.std.specs.Str.{IsUtf8}
use Rattle.mad_md.specs.Flagged.{Flags, flagged_of, flags_of, run_of}
use Rattle.mad_md.specs.declared.compound.Compound.{Compound}
use Rattle.mad_term.specs.declared.styles.ContentStyle.{ContentStyle}
use Rattle.mad_screen.specs.Glyph.{Glyph, Look}
use Rattle.mad_screen.specs.Grid.{plain_pen}
use Rattle.mad_style.specs.declared.kinds.CompositeKind.{CompositeKind}
use Rattle.mad_style.specs.declared.line_styles.LineStyle.{LineStyle}
use Rattle.mad_draw.specs.Pieces.{RowPiece, FillsRow, IsShownPiece, AreShownPieces, penned_chars, pieces_columns, spaces}
use Rattle.mad_draw.specs.PennedCells.{penned_cells}
use Rattle.mad_draw.proofs.PieceLemmas.{length-pieces_cells}
use Rattle.mad_draw.proofs.CellLemmas.{cells_of_pieces}
use Rattle.mad_format.specs.declared.composite.FmtComposite.{FmtComposite}
use Rattle.mad_format.specs.declared.line.FmtLine.{FmtLine}
use Rattle.mad_format.specs.declared.line.FmtLine.TheVariants.{Normal, TableRow, TableRule, HorizontalRule}
use Rattle.mad_rows.specs.RowStyles.{compound_style, line_style}
use Rattle.mad_rows.specs.Rows.{cell_margins, cell_pieces, composite_pieces, compound_piece, inner_blanks, left_of_place, line_pieces, margins_of, outer_blanks, prefix_pieces, right_of_place, row_columns, vertical_piece}
use Rattle.mad_rows.specs.declared.row_skin.RowSkin.{RowSkin}
use Rattle.mad_mark_runs.specs.declared.mark_runs.MarkRun.{MarkRun}
use Rattle.mad_marks.specs.RowMarks.{counted}
use Rattle.mad_marked_rows.specs.Told.{told_cell, told_cells, told_chars, TellsNothing}
use Rattle.mad_marked_rows.proofs.ToldLemmas.{same_cells, told_joined, text_shown, text_told}
use Rattle.mad_marked_rows.specs.RowLaws.{AreTexts}
use Rattle.mad_marked_rows.specs.MarkedRows.{marked_cells, marked_composite, marked_compound, marked_compounds, marked_line}

-- ---- what is told of characters

compound_told : (tell : Look → Look) (paint : ℕ → ContentStyle → ContentStyle) (has : Flags → Bool) (runs : List MarkRun) (skin : RowSkin) (style : LineStyle) (n : ℕ) (k : Compound) (t : Bool) → TellsNothing tell paint → IsUtf8 k.src.now
    → has (flags_of k) ≡ t → told_chars tell (marked_compound paint has runs skin style n k) ≡ told_chars tell (compound_piece skin style k ∷ [])
compound_told tell paint has runs skin style n k true nothing utf8 e =
    ap (λ (u : Bool). told_chars tell (if u then marked_own else compound_piece skin style k ∷ [])) e ∙ text_told tell paint runs (compound_style skin style (run_of k)).object_style n k.src.now nothing utf8
  where
    marked_own : List RowPiece
    marked_own = marked_compound paint (λ f. true) runs skin style n k
compound_told tell paint has runs skin style n k false nothing utf8 e =
    ap (λ (u : Bool). told_chars tell (if u then marked_own else compound_piece skin style k ∷ [])) e
  where
    marked_own : List RowPiece
    marked_own = marked_compound paint (λ f. true) runs skin style n k

compounds_told : (tell : Look → Look) (paint : ℕ → ContentStyle → ContentStyle) (has : Flags → Bool) (runs : List MarkRun) (skin : RowSkin) (style : LineStyle) (n : ℕ) (ks : List Compound) → TellsNothing tell paint → AllByRecursion (λ k. IsUtf8 k.src.now) ks
    → told_chars tell (marked_compounds paint has runs skin style n ks) ≡ told_chars tell (map (compound_piece skin style) ks)
compounds_told tell paint has runs skin style n [] nothing utf8 = refl
compounds_told tell paint has runs skin style n (k ∷ ks) nothing utf8 =
    told_joined tell (marked_compound paint has runs skin style n k) (marked_compounds paint has runs skin style (n + counted has (flagged_of k)) ks)
    ∙ ap (λ l. l ++ told_chars tell (marked_compounds paint has runs skin style (n + counted has (flagged_of k)) ks)) (compound_told tell paint has runs skin style n k (has (flags_of k)) nothing utf8.0 refl)
    ∙ ap (λ l. told_chars tell (compound_piece skin style k ∷ []) ++ l) (compounds_told tell paint has runs skin style (n + counted has (flagged_of k)) ks nothing utf8.1)
    ∙ sym (told_joined tell (compound_piece skin style k ∷ []) (map (compound_piece skin style) ks))

-- pieces amid others
pub told_after : (tell : Look → Look) (xs ps qs : List RowPiece) → told_chars tell ps ≡ told_chars tell qs → told_chars tell (xs ++ ps) ≡ told_chars tell (xs ++ qs)
told_after tell xs ps qs e = told_joined tell xs ps ∙ ap (λ l. told_chars tell xs ++ l) e ∙ sym (told_joined tell xs qs)

-- the same where other pieces are behind them
pub told_before : (tell : Look → Look) (ps qs xs : List RowPiece) → told_chars tell ps ≡ told_chars tell qs → told_chars tell (ps ++ xs) ≡ told_chars tell (qs ++ xs)
told_before tell ps qs xs e = told_joined tell ps xs ∙ ap (λ l. l ++ told_chars tell xs) e ∙ sym (told_joined tell qs xs)

composite_told : (tell : Look → Look) (paint : ℕ → ContentStyle → ContentStyle) (has : CompositeKind → Flags → Bool) (runs : List MarkRun) (skin : RowSkin) (outer : Option ℕ) (margins : ℕ × ℕ) (filled : Bool) (n : ℕ) (l : FmtComposite) → TellsNothing tell paint
    → AllByRecursion (λ k. IsUtf8 k.src.now) l.compounds.items → told_chars tell (marked_composite paint has runs skin outer margins filled n l) ≡ told_chars tell (composite_pieces skin outer margins filled l)
composite_told tell paint has runs skin outer margins filled n l nothing utf8 =
    let style = line_style skin l.kind in
    let blanks = outer_blanks style.align outer margins l in
    let end : List RowPiece = spaces style.compound_style (inner_blanks l).1 ++ (if filled then spaces skin.paragraph.compound_style blanks.1 else []) in
    told_after tell (spaces skin.paragraph.compound_style blanks.0) _ _ (
    told_after tell (spaces style.compound_style (inner_blanks l).0) _ _ (
    told_after tell (prefix_pieces skin l.kind) _ _ (
    told_before tell (marked_compounds paint (has l.kind) runs skin style n l.compounds.items) (map (compound_piece skin style) l.compounds.items) end (
    compounds_told tell paint (has l.kind) runs skin style n l.compounds.items nothing utf8))))

row_cells_told : (tell : Look → Look) (paint : ℕ → ContentStyle → ContentStyle) (has : CompositeKind → Flags → Bool) (runs : List MarkRun) (skin : RowSkin) (ns : List ℕ) (cs : List FmtComposite) → TellsNothing tell paint
    → AllByRecursion (λ (l : FmtComposite). AllByRecursion (λ k. IsUtf8 k.src.now) l.compounds.items) cs → told_chars tell (marked_cells paint has runs skin ns cs) ≡ told_chars tell (flat_map (cell_pieces skin) cs)
row_cells_told tell paint has runs skin ns [] nothing utf8 = refl
row_cells_told tell paint has runs skin ns (c ∷ cs) nothing utf8 =
    let own : List RowPiece = vertical_piece skin ∷ marked_composite paint has runs skin None (cell_margins skin) true (slice_index ns 0) c in
    told_before tell own (cell_pieces skin c) (marked_cells paint has runs skin (drop 1 ns) cs)
    (told_after tell (vertical_piece skin ∷ []) _ _ (composite_told tell paint has runs skin None (cell_margins skin) true (slice_index ns 0) c nothing utf8.0))
    ∙ told_after tell (cell_pieces skin c) _ _ (row_cells_told tell paint has runs skin (drop 1 ns) cs nothing utf8.1)

-- what is told of the characters of a line is the same with marks
pub chars_told : (tell : Look → Look) (paint : ℕ → ContentStyle → ContentStyle) (has : CompositeKind → Flags → Bool) (runs : List MarkRun) (skin : RowSkin) (outer : Option ℕ) (filled : Bool) (numbers : List ℕ) (line : FmtLine) → TellsNothing tell paint → AreTexts line
    → told_chars tell (marked_line paint has runs skin outer filled numbers line) ≡ told_chars tell (line_pieces skin outer filled line)
chars_told tell paint has runs skin outer filled numbers (Normal l) nothing utf8 = composite_told tell paint has runs skin outer (margins_of skin outer l) filled (slice_index numbers 0) l nothing utf8.0
chars_told tell paint has runs skin outer filled numbers (TableRow row) nothing utf8 =
    let cells = row.cells.items in
    let right : List RowPiece = if filled then spaces skin.paragraph.compound_style (right_of_place skin.table.align (row_columns skin cells) outer) else [] in
    told_after tell (spaces skin.paragraph.compound_style (left_of_place skin.table.align (row_columns skin cells) outer)) _ _ (
    told_before tell (marked_cells paint has runs skin numbers cells ++ vertical_piece skin ∷ []) (flat_map (cell_pieces skin) cells ++ vertical_piece skin ∷ []) right (
    told_before tell (marked_cells paint has runs skin numbers cells) (flat_map (cell_pieces skin) cells) (vertical_piece skin ∷ []) (row_cells_told tell paint has runs skin numbers cells nothing utf8)))
chars_told tell paint has runs skin outer filled numbers (TableRule rule) nothing utf8 = refl
chars_told tell paint has runs skin outer filled numbers HorizontalRule nothing utf8 = refl

-- THE LAW
pub line_told : (tell : Look → Look) (paint : ℕ → ContentStyle → ContentStyle) (has : CompositeKind → Flags → Bool) (runs : List MarkRun) (skin : RowSkin) (outer : Option ℕ) (filled : Bool) (numbers : List ℕ) (line : FmtLine) → TellsNothing tell paint → AreTexts line
    → told_cells tell (marked_line paint has runs skin outer filled numbers line) ≡ told_cells tell (line_pieces skin outer filled line)
line_told tell paint has runs skin outer filled numbers line nothing utf8 =
    same_cells tell (marked_line paint has runs skin outer filled numbers line) (line_pieces skin outer filled line) (chars_told tell paint has runs skin outer filled numbers line nothing utf8)

-- ---- cells of their own

shown_both : (ps qs : List RowPiece) → AreShownPieces ps → AreShownPieces qs → AreShownPieces (ps ++ qs)
shown_both [] qs a b = b
shown_both (p ∷ ps) qs a b = (a.0, shown_both ps qs a.1 b)

-- the first of pieces that show cells of their own
pub shown_left : (ps qs : List RowPiece) → AreShownPieces (ps ++ qs) → AreShownPieces ps
shown_left [] qs h = tt
shown_left (p ∷ ps) qs h = (h.0, shown_left ps qs h.1)

-- the last of them
pub shown_right : (ps qs : List RowPiece) → AreShownPieces (ps ++ qs) → AreShownPieces qs
shown_right [] qs h = h
shown_right (p ∷ ps) qs h = shown_right ps qs h.1

compound_shown : (paint : ℕ → ContentStyle → ContentStyle) (has : Flags → Bool) (runs : List MarkRun) (skin : RowSkin) (style : LineStyle) (n : ℕ) (k : Compound) (t : Bool) → has (flags_of k) ≡ t → IsShownPiece (compound_piece skin style k)
    → AreShownPieces (marked_compound paint has runs skin style n k)
compound_shown paint has runs skin style n k true e h =
    subst (λ (u : Bool). AreShownPieces (if u then marked_own else compound_piece skin style k ∷ [])) (sym e) (text_shown paint runs (compound_style skin style (run_of k)).object_style n k.src.now h.utf8 h.shown)
  where
    marked_own : List RowPiece
    marked_own = marked_compound paint (λ f. true) runs skin style n k
compound_shown paint has runs skin style n k false e h =
    subst (λ (u : Bool). AreShownPieces (if u then marked_own else compound_piece skin style k ∷ [])) (sym e) (h, tt)
  where
    marked_own : List RowPiece
    marked_own = marked_compound paint (λ f. true) runs skin style n k

compounds_shown : (paint : ℕ → ContentStyle → ContentStyle) (has : Flags → Bool) (runs : List MarkRun) (skin : RowSkin) (style : LineStyle) (n : ℕ) (ks : List Compound) → AreShownPieces (map (compound_piece skin style) ks)
    → AreShownPieces (marked_compounds paint has runs skin style n ks)
compounds_shown paint has runs skin style n [] h = tt
compounds_shown paint has runs skin style n (k ∷ ks) h =
    shown_both (marked_compound paint has runs skin style n k) (marked_compounds paint has runs skin style (n + counted has (flagged_of k)) ks)
    (compound_shown paint has runs skin style n k (has (flags_of k)) refl h.0) (compounds_shown paint has runs skin style (n + counted has (flagged_of k)) ks h.1)

shown_after : (xs ps qs : List RowPiece) → (AreShownPieces qs → AreShownPieces ps) → AreShownPieces (xs ++ qs) → AreShownPieces (xs ++ ps)
shown_after xs ps qs f h = shown_both xs ps (shown_left xs qs h) (f (shown_right xs qs h))

shown_before : (ps qs xs : List RowPiece) → (AreShownPieces qs → AreShownPieces ps) → AreShownPieces (qs ++ xs) → AreShownPieces (ps ++ xs)
shown_before ps qs xs f h = shown_both ps xs (f (shown_left qs xs h)) (shown_right qs xs h)

composite_shown : (paint : ℕ → ContentStyle → ContentStyle) (has : CompositeKind → Flags → Bool) (runs : List MarkRun) (skin : RowSkin) (outer : Option ℕ) (margins : ℕ × ℕ) (filled : Bool) (n : ℕ) (l : FmtComposite)
    → AreShownPieces (composite_pieces skin outer margins filled l) → AreShownPieces (marked_composite paint has runs skin outer margins filled n l)
composite_shown paint has runs skin outer margins filled n l =
    let style = line_style skin l.kind in
    let blanks = outer_blanks style.align outer margins l in
    let end : List RowPiece = spaces style.compound_style (inner_blanks l).1 ++ (if filled then spaces skin.paragraph.compound_style blanks.1 else []) in
    shown_after (spaces skin.paragraph.compound_style blanks.0) _ _ (
    shown_after (spaces style.compound_style (inner_blanks l).0) _ _ (
    shown_after (prefix_pieces skin l.kind) _ _ (
    shown_before (marked_compounds paint (has l.kind) runs skin style n l.compounds.items) (map (compound_piece skin style) l.compounds.items) end (
    compounds_shown paint (has l.kind) runs skin style n l.compounds.items))))

cells_shown : (paint : ℕ → ContentStyle → ContentStyle) (has : CompositeKind → Flags → Bool) (runs : List MarkRun) (skin : RowSkin) (ns : List ℕ) (cs : List FmtComposite) → AreShownPieces (flat_map (cell_pieces skin) cs)
    → AreShownPieces (marked_cells paint has runs skin ns cs)
cells_shown paint has runs skin ns [] h = tt
cells_shown paint has runs skin ns (c ∷ cs) h =
    let own : List RowPiece = vertical_piece skin ∷ marked_composite paint has runs skin None (cell_margins skin) true (slice_index ns 0) c in
    let first = shown_left (cell_pieces skin c) (flat_map (cell_pieces skin) cs) h in
    shown_both own (marked_cells paint has runs skin (drop 1 ns) cs) (first.0, composite_shown paint has runs skin None (cell_margins skin) true (slice_index ns 0) c first.1)
    (cells_shown paint has runs skin (drop 1 ns) cs (shown_right (cell_pieces skin c) (flat_map (cell_pieces skin) cs) h))

-- where a line shows cells of its own, it does so with marks
pub line_shown : (paint : ℕ → ContentStyle → ContentStyle) (has : CompositeKind → Flags → Bool) (runs : List MarkRun) (skin : RowSkin) (outer : Option ℕ) (filled : Bool) (numbers : List ℕ) (line : FmtLine) → AreShownPieces (line_pieces skin outer filled line)
    → AreShownPieces (marked_line paint has runs skin outer filled numbers line)
line_shown paint has runs skin outer filled numbers (Normal l) h = composite_shown paint has runs skin outer (margins_of skin outer l) filled (slice_index numbers 0) l h
line_shown paint has runs skin outer filled numbers (TableRow row) h =
    let cells = row.cells.items in
    let right : List RowPiece = if filled then spaces skin.paragraph.compound_style (right_of_place skin.table.align (row_columns skin cells) outer) else [] in
    shown_after (spaces skin.paragraph.compound_style (left_of_place skin.table.align (row_columns skin cells) outer)) _ _ (
    shown_before (marked_cells paint has runs skin numbers cells ++ vertical_piece skin ∷ []) (flat_map (cell_pieces skin) cells ++ vertical_piece skin ∷ []) right (
    shown_before (marked_cells paint has runs skin numbers cells) (flat_map (cell_pieces skin) cells) (vertical_piece skin ∷ []) (cells_shown paint has runs skin numbers cells))) h
line_shown paint has runs skin outer filled numbers (TableRule rule) h = h
line_shown paint has runs skin outer filled numbers HorizontalRule h = h

-- nothing at all is told of pens
abbrev nothing_of : Look → Look
nothing_of pen = plain_pen

told_long : (gs : List Glyph) → length (map (told_cell nothing_of) gs) ≡ length gs
told_long [] = refl
told_long (g ∷ gs) = ap suc (told_long gs)

as_wide : (ps qs : List RowPiece) → AreShownPieces ps → AreShownPieces qs → told_cells nothing_of ps ≡ told_cells nothing_of qs → pieces_columns ps ≡ pieces_columns qs
as_wide ps qs a b e =
    sym (length-pieces_cells ps) ∙ sym (ap length (cells_of_pieces ps a)) ∙ sym (told_long (penned_cells (penned_chars ps))) ∙ ap length e
    ∙ told_long (penned_cells (penned_chars qs)) ∙ ap length (cells_of_pieces qs b) ∙ length-pieces_cells qs

-- THE LAW: where it fills a row, it does so with marks
pub line_fills : (width : ℕ) (paint : ℕ → ContentStyle → ContentStyle) (has : CompositeKind → Flags → Bool) (runs : List MarkRun) (skin : RowSkin) (outer : Option ℕ) (filled : Bool) (numbers : List ℕ) (line : FmtLine) → AreTexts line
    → FillsRow width (line_pieces skin outer filled line) → FillsRow width (marked_line paint has runs skin outer filled numbers line)
line_fills width paint has runs skin outer filled numbers line utf8 h =
    let shown = line_shown paint has runs skin outer filled numbers line h.shown in
    let same = line_told nothing_of paint has runs skin outer filled numbers line (λ v style. refl) utf8 in
    record { shown = shown; columns = as_wide (marked_line paint has runs skin outer filled numbers line) (line_pieces skin outer filled line) shown h.shown same ∙ h.columns }

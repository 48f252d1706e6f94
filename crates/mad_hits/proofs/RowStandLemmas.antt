-- All hits of a row stand in it, those of a table's row too.
use Rattle.std.proofs.Common.{◌≡◌, ℕ, ◌+◌, ◌-◌, ◌^◌, ◌<◌, nat_lt, Bool, true, false, List, [], ◌∷◌, ◌++◌, drop, map, take, Option, Some, None, refl, ap, sym, ◌∙◌, subst, arith, append_assoc}
use Rattle.std.specs.Prelude.{slice_get, if◌then◌else◌}
use Rattle.std.specs.List.{AllByRecursion, flat_map}
use Rattle.std.proofs.lemmas.List.{drop-map, map-append, take-map}
use Rattle.std.proofs.lemmas.Option.{same_Some}
use Rattle.std.proofs.lemmas.List.Concat.{flat_map-append}
use Rattle.mad_measure.proofs.AllLemmas.{all_joined}
use Rattle.mad_style.specs.declared.compound_styles.CompoundStyle.{CompoundStyle}
use Rattle.mad_style.specs.declared.styled_chars.StyledChar.{StyledChar}
use Rattle.mad_screen.specs.Glyph.{Glyph}
use Rattle.mad_screen.specs.Grid.{plain_pen}
use Rattle.mad_screen.specs.Painting.{piece_cells}
use Rattle.mad_draw.specs.PennedCells.{penned_cells}
use Rattle.mad_draw.specs.Pieces.{AreShownPieces, IsShownPiece, RowPiece, penned_chars, pieces_columns, spaces}
use Rattle.mad_marked_rows.specs.Told.{told_cell, told_cells}
use Rattle.mad_page_rows.proofs.TonedLemmas.{row_told, toned_fills}
use Rattle.mad_rows.specs.RowStyles.{tone_styles}
use Rattle.mad_draw.proofs.CellLemmas.{cells_of_pieces}
use Rattle.mad_draw.proofs.PieceLemmas.{columns-both, pieces_cells, shown_spaces, spaces_columns}
use Rattle.mad_format.specs.declared.composite.FmtComposite.{FmtComposite}
use Rattle.mad_format.specs.declared.line.FmtLine.{FmtLine}
use Rattle.mad_format.specs.declared.line.FmtLine.TheVariants.{Normal, TableRow, TableRule, HorizontalRule}
use Rattle.mad_rows.specs.Rows.{cell_margins, cell_pieces, composite_pieces, cell_columns, left_of_place, line_pieces, margins_of, right_of_place, row_columns, vertical_piece}
use Rattle.mad_rows.specs.declared.row_skin.RowSkin.{RowSkin}
use Rattle.mad_page_rows.specs.FaceLaws.{fronts}
use Rattle.mad_page_rows.specs.Faces.{backs, behind_pieces, blanks, faces, has_ascii_boxes, line_skin, page_row_pieces}
use Rattle.mad_page_rows.proofs.FillLemmas.{faces_fill}
use Rattle.mad_pages.specs.Fronts.{front_at, row_behind}
use Rattle.mad_sections.specs.Gutters.{columns_of}
use Rattle.mad_wrap.specs.WrapLines.{capped}
use Rattle.regex.specs.Patterns.{Re}
use Rattle.mad_patterns.specs.Breaks.{line_rows, line_start}
use Rattle.mad_patterns.specs.Searches.{composite_text}
use Rattle.mad_hits.specs.Drawn.{marked_columns}
use Rattle.mad_hits.specs.HitLaws.{cell_chars, DrawnHitsStand, HasIndent, HitsChangeNoCharacter, IsCounted, IsCountedCell, StandsWithin}
use Rattle.mad_hits.specs.Hits.{Marked, PlacedText, marked_at, placed_cell, placed_cells, placed_line, placed_row, placed_texts, text_column}
use Rattle.mad_hits.specs.FrontHits.{hit_behind}
use Rattle.mad_hits.specs.Parts.{AreRowHits, char_count, marked_bytes, part_of, text_hits, texts_hits}
use Rattle.mad_hits.specs.Rooms.{in_room, room_columns}
use Rattle.mad_hits.specs.Styled.{styled_text}
use Rattle.mad_hits.proofs.StandLemmas.{amid, mark_stands, styled_stands}

-- a hit so many columns further right
abbrev further : ℕ → Marked → Marked
further n hit = record { column = capped (n + hit.column); chars = hit.chars }

-- a hit of a text that begins in a column, so many columns further right
moved : (n column : ℕ) (text : List StyledChar) (count start : ℕ) → further (capped n) (marked_at column text count start) ≡ marked_at (n + column) text count start
moved n column text count start =
    ap (λ (m : ℕ). let hit : Marked = record { column = m; chars = (marked_at column text count start).chars } in hit) (omega arith)

both_behind : (P : Marked → Type 0) (n : ℕ) (a b : List Marked) → AllByRecursion P (map (further n) a) → AllByRecursion P (map (further n) b) → AllByRecursion P (map (further n) (a ++ b))
both_behind P n a b p q = subst (AllByRecursion P) (sym (map-append (further n) a b)) (all_joined P (map (further n) a) (map (further n) b) p q)

-- the characters in some bytes of a text, of which each part stands in a row
part_stands : (P : Marked → Type 0) (n column : ℕ) (text : List StyledChar) (bytes : List ℕ) (part : ℕ × ℕ) → ((count start : ℕ) → P (further n (marked_at column text count start))) → AllByRecursion P (map (further n) (marked_bytes column text bytes part))
part_stands P n column text bytes part each = there (nat_lt part.0 part.1)
  where
    there : (b : Bool) → AllByRecursion P (map (further n) (if b then marked_at column text (char_count (take part.1 bytes) - char_count (take part.0 bytes)) (char_count (take part.0 bytes)) ∷ [] else []))
    there true = (each (char_count (take part.1 bytes) - char_count (take part.0 bytes)) (char_count (take part.0 bytes)), tt)
    there false = tt

-- so do the parts of all hits
parts_stand : (P : Marked → Type 0) (n column : ℕ) (text : List StyledChar) (bytes : List ℕ) (own : ℕ × ℕ) (found : List (ℕ × ℕ)) → ((count start : ℕ) → P (further n (marked_at column text count start)))
    → AllByRecursion P (map (further n) (flat_map (λ (hit : ℕ × ℕ). marked_bytes column text bytes (part_of own hit)) found))
parts_stand P n column text bytes own [] each = tt
parts_stand P n column text bytes own (hit ∷ found) each =
    both_behind P n (marked_bytes column text bytes (part_of own hit)) (flat_map (λ (h : ℕ × ℕ). marked_bytes column text bytes (part_of own h)) found) (part_stands P n column text bytes (part_of own hit) each) (parts_stand P n column text bytes own found each)

-- the hits of a composite, of which each stands in a row
text_stands : (skin : RowSkin) (width n : ℕ) (row : List RowPiece) (placed : PlacedText) → ((count start : ℕ) → StandsWithin width row (further n (marked_at placed.column (styled_text skin placed.text) count start)))
    → AllByRecursion (StandsWithin width row) (map (further n) (text_hits skin placed))
text_stands skin width n row placed each = parts_stand (StandsWithin width row) n placed.column (styled_text skin placed.text) (composite_text placed.text) placed.own placed.hits each

-- ---- a line of a text, amid what is in front of it and behind it

line_stands : (skin : RowSkin) (width rest nf : ℕ) (l : FmtComposite) (f b : List RowPiece) (count start : ℕ) → width < 2 ^ 16 → pieces_columns f ≡ nf → HasIndent skin l → AreShownPieces (f ++ (line_pieces skin (Some rest) true (Normal l) ++ b))
    → StandsWithin width (f ++ (line_pieces skin (Some rest) true (Normal l) ++ b)) (further (capped nf) (marked_at (text_column skin (Some rest) (margins_of skin (Some rest) l) l) (styled_text skin l) count start))
line_stands skin width rest nf l f b count start narrow wide prefix shown =
    let outer : Option ℕ = Some rest in
    let margins : ℕ × ℕ = margins_of skin outer l in
    let column : ℕ = text_column skin outer margins l in
    subst (StandsWithin width (f ++ (line_pieces skin (Some rest) true (Normal l) ++ b))) (sym (moved nf column (styled_text skin l) count start))
    (mark_stands skin outer margins true l f b nf (nf + column) width count start wide prefix shown refl narrow)

-- ---- a row of a table

-- a cell is behind its border, and before the other cells
cell_amid : (skin : RowSkin) (cell : FmtComposite) (cells : List FmtComposite) (f b : List RowPiece)
    → amid skin None (cell_margins skin) true cell (f ++ vertical_piece skin ∷ []) (flat_map (cell_pieces skin) cells ++ b) ≡ f ++ (flat_map (cell_pieces skin) (cell ∷ cells) ++ b)
cell_amid skin cell cells f b =
    let own : List RowPiece = composite_pieces skin None (cell_margins skin) true cell in
    let rest : List RowPiece = flat_map (cell_pieces skin) cells in
    append_assoc f (vertical_piece skin ∷ []) (own ++ (rest ++ b)) ∙ ap (λ (ps : List RowPiece). f ++ vertical_piece skin ∷ ps) (sym (append_assoc own rest b))

-- the others are behind it
others_amid : (skin : RowSkin) (cell : FmtComposite) (cells : List FmtComposite) (f b : List RowPiece)
    → ((f ++ vertical_piece skin ∷ []) ++ composite_pieces skin None (cell_margins skin) true cell) ++ (flat_map (cell_pieces skin) cells ++ b) ≡ f ++ (flat_map (cell_pieces skin) (cell ∷ cells) ++ b)
others_amid skin cell cells f b =
    append_assoc (f ++ vertical_piece skin ∷ []) (composite_pieces skin None (cell_margins skin) true cell) (flat_map (cell_pieces skin) cells ++ b) ∙ cell_amid skin cell cells f b

cells_stand : (skin : RowSkin) (width nf : ℕ) (sought : Re) (f b : List RowPiece) (column : ℕ) (cells : List FmtComposite) → width < 2 ^ 16 → pieces_columns f ≡ nf + column → pieces_columns (vertical_piece skin ∷ []) ≡ 1
    → AllByRecursion (IsCountedCell skin) cells → AreShownPieces (f ++ (flat_map (cell_pieces skin) cells ++ b))
    → AllByRecursion (StandsWithin width (f ++ (flat_map (cell_pieces skin) cells ++ b))) (map (further (capped nf)) (texts_hits skin (placed_cells skin sought column cells)))
cells_stand skin width nf sought f b column [] narrow wide border counted shown = tt
cells_stand skin width nf sought f b column (cell ∷ cells) narrow wide border counted shown =
    let n : ℕ = capped nf in
    let bordered : List RowPiece = f ++ vertical_piece skin ∷ [] in
    let behind : List RowPiece = flat_map (cell_pieces skin) cells ++ b in
    let row : List RowPiece = f ++ (flat_map (cell_pieces skin) (cell ∷ cells) ++ b) in
    let P : Marked → Type 0 = StandsWithin width row in
    let inside : ℕ = column + 1 in
    let text : ℕ = inside + text_column skin None (cell_margins skin) cell in
    let first : List Marked = text_hits skin (placed_cell skin sought column cell) in
    let others : List Marked = texts_hits skin (placed_cells skin sought (inside + cell_columns skin cell) cells) in
    let wide_border : pieces_columns bordered ≡ nf + inside = let both = columns-both f (vertical_piece skin ∷ []) in omega (arith, both, wide, border) in
    let wide_cell : pieces_columns (bordered ++ composite_pieces skin None (cell_margins skin) true cell) ≡ nf + (inside + cell_columns skin cell) =
    let both = columns-both bordered (composite_pieces skin None (cell_margins skin) true cell) in let place = counted.0.place in omega (arith, both, wide_border, place) in
    let own_stand : AllByRecursion P (map (further n) first) =
    text_stands skin width n row (placed_cell skin sought column cell)
    (λ count start.
    subst P (sym (moved nf text (styled_text skin cell) count start))
    (subst (λ (ps : List RowPiece). StandsWithin width ps (marked_at (nf + text) (styled_text skin cell) count start)) (cell_amid skin cell cells f b)
    (mark_stands skin None (cell_margins skin) true cell bordered behind (nf + inside) (nf + text) width count start wide_border counted.0.indent (subst AreShownPieces (sym (cell_amid skin cell cells f b)) shown) (omega arith) narrow))) in
    let rest_stand : AllByRecursion P (map (further n) others) =
    subst (λ (ps : List RowPiece). AllByRecursion (StandsWithin width ps) (map (further n) others)) (others_amid skin cell cells f b)
    (cells_stand skin width nf sought (bordered ++ composite_pieces skin None (cell_margins skin) true cell) b (inside + cell_columns skin cell) cells narrow wide_cell border counted.1 (subst AreShownPieces (sym (others_amid skin cell cells f b)) shown)) in
    both_behind P n first others own_stand rest_stand

-- the pieces of a row of a table, amid what is in front of it and behind it
table_amid : (f l all r b : List RowPiece) (v : RowPiece) → f ++ ((l ++ ((all ++ v ∷ []) ++ r)) ++ b) ≡ (f ++ l) ++ (all ++ (v ∷ r ++ b))
table_amid f l all r b v =
    ap (λ (ps : List RowPiece). f ++ ps) (append_assoc l ((all ++ v ∷ []) ++ r) b)
    ∙ ap (λ (ps : List RowPiece). f ++ (l ++ ps)) (append_assoc (all ++ v ∷ []) r b)
    ∙ ap (λ (ps : List RowPiece). f ++ (l ++ ps)) (append_assoc all (v ∷ []) (r ++ b))
    ∙ sym (append_assoc f l (all ++ (v ∷ r ++ b)))

table_stands : (skin : RowSkin) (width rest nf : ℕ) (sought : Re) (cells : List FmtComposite) (f b row : List RowPiece) → width < 2 ^ 16 → pieces_columns f ≡ nf → pieces_columns (vertical_piece skin ∷ []) ≡ 1 → AllByRecursion (IsCountedCell skin) cells
    → row ≡ spaces skin.paragraph.compound_style (left_of_place skin.table.align (row_columns skin cells) (Some rest)) ++ ((flat_map (cell_pieces skin) cells ++ vertical_piece skin ∷ []) ++ spaces skin.paragraph.compound_style (right_of_place skin.table.align (row_columns skin cells) (Some rest)))
    → AreShownPieces (f ++ (row ++ b)) → AllByRecursion (StandsWithin width (f ++ (row ++ b))) (map (further (capped nf)) (texts_hits skin (placed_row skin sought rest cells)))
table_stands skin width rest nf sought cells f b row narrow wide border counted is shown =
    let left : ℕ = left_of_place skin.table.align (row_columns skin cells) (Some rest) in
    let l : List RowPiece = spaces skin.paragraph.compound_style left in
    let right : List RowPiece = spaces skin.paragraph.compound_style (right_of_place skin.table.align (row_columns skin cells) (Some rest)) in
    let all : List RowPiece = flat_map (cell_pieces skin) cells in
    let hits : List Marked = texts_hits skin (placed_cells skin sought left cells) in
    let same : f ++ (row ++ b) ≡ (f ++ l) ++ (all ++ (vertical_piece skin ∷ right ++ b)) = ap (λ (ps : List RowPiece). f ++ (ps ++ b)) is ∙ table_amid f l all right b (vertical_piece skin) in
    let wide_left : pieces_columns (f ++ l) ≡ nf + left = let both = columns-both f l in let blank = spaces_columns skin.paragraph.compound_style left in omega (arith, both, wide, blank) in
    subst (λ (ps : List RowPiece). AllByRecursion (StandsWithin width ps) (map (further (capped nf)) hits)) (sym same)
    (cells_stand skin width nf sought (f ++ l) (vertical_piece skin ∷ right ++ b) left cells narrow wide_left border counted (subst AreShownPieces same shown))

-- ---- any row

-- what a row's hits are, by its line
hits_of : (skin : RowSkin) (width : ℕ) (sought : Re) (lines : List FmtLine) (starts : List ℕ) (row : ℕ) (hits : List Marked) (line : FmtLine) → slice_get lines row ≡ Some line → AreRowHits skin width sought lines starts row hits
    → hits ≡ texts_hits skin (placed_texts skin sought width lines starts row line)
hits_of skin width sought lines starts row hits line is are =
    let same : are.line ≡ line = same_Some _ _ (sym are.is ∙ is) in are.are ∙ ap (λ (x : FmtLine). texts_hits skin (placed_texts skin sought width lines starts row x)) same

-- the texts of a line have hits that stand in it, amid what is in front of it and behind it
texts_stand : (skin : RowSkin) (width rest nf : ℕ) (sought : Re) (lines : List FmtLine) (starts : List ℕ) (row : ℕ) (line : FmtLine) (f b : List RowPiece) → width < 2 ^ 16 → pieces_columns f ≡ nf → IsCounted skin line
    → AreShownPieces (f ++ (line_pieces skin (Some rest) true line ++ b)) → AllByRecursion (StandsWithin width (f ++ (line_pieces skin (Some rest) true line ++ b))) (map (further (capped nf)) (texts_hits skin (placed_texts skin sought rest lines starts row line)))
texts_stand skin width rest nf sought lines starts row (Normal l) f b narrow wide counted shown =
    let P : Marked → Type 0 = StandsWithin width (f ++ (line_pieces skin (Some rest) true (Normal l) ++ b)) in
    let placed : PlacedText = placed_line skin sought rest (line_rows lines starts row) (row - line_start lines starts row) l in
    both_behind P (capped nf) (text_hits skin placed) []
    (text_stands skin width (capped nf) (f ++ (line_pieces skin (Some rest) true (Normal l) ++ b)) placed (λ count start. line_stands skin width rest nf l f b count start narrow wide counted shown)) tt
texts_stand skin width rest nf sought lines starts row (TableRow table) f b narrow wide counted shown =
    table_stands skin width rest nf sought table.cells.items f b (line_pieces skin (Some rest) true (TableRow table)) narrow wide counted.0 counted.1 refl shown
texts_stand skin width rest nf sought lines starts row (TableRule rule) f b narrow wide counted shown = tt
texts_stand skin width rest nf sought lines starts row HorizontalRule f b narrow wide counted shown = tt

-- so do the hits of the row
amid_stand : (skin : RowSkin) (width rest nf : ℕ) (sought : Re) (lines : List FmtLine) (starts : List ℕ) (row : ℕ) (hits : List Marked) (line : FmtLine) (f b : List RowPiece) → slice_get lines row ≡ Some line → width < 2 ^ 16 → pieces_columns f ≡ nf → IsCounted skin line
    → AreShownPieces (f ++ (line_pieces skin (Some rest) true line ++ b)) → AreRowHits skin rest sought lines starts row hits → AllByRecursion (StandsWithin width (f ++ (line_pieces skin (Some rest) true line ++ b))) (map (further (capped nf)) hits)
amid_stand skin width rest nf sought lines starts row hits line f b is narrow wide counted shown h =
    subst (λ (m : List Marked). AllByRecursion (StandsWithin width (f ++ (line_pieces skin (Some rest) true line ++ b))) (map (further (capped nf)) m)) (sym (hits_of skin rest sought lines starts row hits line is h))
    (texts_stand skin width rest nf sought lines starts row line f b narrow wide counted shown)

-- a row shows the same characters with tones

same_chars : (gs : List Glyph) → cell_chars (map (told_cell (λ pen. plain_pen)) gs) ≡ cell_chars gs
same_chars [] = refl
same_chars (g ∷ gs) = ap (λ (cs : List (List ℕ)). g.chars ∷ cs) (same_chars gs)

chars_same : (row other : List RowPiece) → told_cells (λ pen. plain_pen) row ≡ told_cells (λ pen. plain_pen) other → cell_chars (penned_cells (penned_chars row)) ≡ cell_chars (penned_cells (penned_chars other))
chars_same row other e = sym (same_chars (penned_cells (penned_chars row))) ∙ ap cell_chars e ∙ same_chars (penned_cells (penned_chars other))

part_chars : (k n : ℕ) (gs : List Glyph) → cell_chars (take k (drop n gs)) ≡ take k (drop n (cell_chars gs))
part_chars k n gs = sym (take-map (λ (g : Glyph). g.chars) k (drop n gs)) ∙ ap (take k) (sym (drop-map (λ (g : Glyph). g.chars) n gs))

-- so where a hit stands in it without, it does so with them
stands_toned : (width : ℕ) (row other : List RowPiece) → told_cells (λ pen. plain_pen) row ≡ told_cells (λ pen. plain_pen) other → (hits : List Marked) → AllByRecursion (StandsWithin width other) hits → AllByRecursion (StandsWithin width row) hits
stands_toned width row other e [] h = tt
stands_toned width row other e (hit ∷ hits) h = (
  λ within whole.
      part_chars (marked_columns hit) hit.column (penned_cells (penned_chars row)) ∙ ap (λ (cs : List (List ℕ)). take (marked_columns hit) (drop hit.column cs)) (chars_same row other e)
      ∙ sym (part_chars (marked_columns hit) hit.column (penned_cells (penned_chars other))) ∙ h.0 within whole,
  stands_toned width row other e hits h.1,
)

-- in the style of hits they stand there too
all_styled : (style : CompoundStyle) (width : ℕ) (row : List RowPiece) (n : ℕ) (hits : List Marked) → AllByRecursion (StandsWithin width row) (map (further n) hits) → AllByRecursion (StandsWithin width row) (map (hit_behind style n) hits)
all_styled style width row n [] h = tt
all_styled style width row n (hit ∷ hits) h = (styled_stands style width row (further n hit) h.0, all_styled style width row n hits h.1)

-- cells of pieces behind others, and what is told of them
cells_both : (ps qs : List RowPiece) → AreShownPieces ps → AreShownPieces qs → penned_cells (penned_chars (ps ++ qs)) ≡ penned_cells (penned_chars ps) ++ penned_cells (penned_chars qs)
cells_both ps qs p q =
    cells_of_pieces (ps ++ qs) (all_joined IsShownPiece ps qs p q)
    ∙ flat_map-append (λ (p : RowPiece). piece_cells p.style p.text) ps qs
    ∙ ap (λ (gs : List Glyph). gs ++ pieces_cells qs) (sym (cells_of_pieces ps p))
    ∙ ap (λ (gs : List Glyph). penned_cells (penned_chars ps) ++ gs) (sym (cells_of_pieces qs q))

told_both : (ps qs : List RowPiece) → AreShownPieces ps → AreShownPieces qs → told_cells (λ pen. plain_pen) (ps ++ qs) ≡ told_cells (λ pen. plain_pen) ps ++ told_cells (λ pen. plain_pen) qs
told_both ps qs p q = ap (map (told_cell (λ pen. plain_pen))) (cells_both ps qs p q) ∙ map-append (told_cell (λ pen. plain_pen)) (penned_cells (penned_chars ps)) (penned_cells (penned_chars qs))

-- where the same is told of two rows, it is so between blanks
told_amid : (a x y b : List RowPiece) → AreShownPieces a → AreShownPieces x → AreShownPieces y → AreShownPieces b → told_cells (λ pen. plain_pen) x ≡ told_cells (λ pen. plain_pen) y → told_cells (λ pen. plain_pen) (a ++ (x ++ b)) ≡ told_cells (λ pen. plain_pen) (a ++ (y ++ b))
told_amid a x y b p q r t same =
    told_both a (x ++ b) p (all_joined IsShownPiece x b q t)
    ∙ ap (λ (gs : List Glyph). told_cells (λ pen. plain_pen) a ++ gs) (told_both x b q t ∙ ap (λ (gs : List Glyph). gs ++ told_cells (λ pen. plain_pen) b) same ∙ sym (told_both y b r t))
    ∙ sym (told_both a (y ++ b) p (all_joined IsShownPiece y b r t))

-- blanks before a row and behind it, and its sides
sides_joined : (a f x b c : List RowPiece) → a ++ ((f ++ (x ++ b)) ++ c) ≡ (a ++ f) ++ (x ++ (b ++ c))
sides_joined a f x b c =
    ap (λ (ps : List RowPiece). a ++ ps) (append_assoc f (x ++ b) c ∙ ap (λ (ps : List RowPiece). f ++ ps) (append_assoc x b c)) ∙ sym (append_assoc a f (x ++ (b ++ c)))

pub hits_change_no_character : HitsChangeNoCharacter
hits_change_no_character skin style room all sought lines front starts row hits line is narrow faces_shown counted shown h =
    let width : ℕ = room_columns room in
    let inner : RowSkin = line_skin skin front in
    let rest : ℕ = width - columns_of (has_ascii_boxes skin) front.gutters in
    let gutters = front.gutters in
    let before : List RowPiece = blanks skin room.left in
    let behind : List RowPiece = blanks skin (all - room.end) in
    let f : List RowPiece = faces skin gutters front.fresh in
    let b : List RowPiece = backs skin gutters in
    let plain : List RowPiece = line_pieces inner (Some rest) true line in
    let toned : List RowPiece = behind_pieces skin (Some width) true (row_behind front line) in
    let placed : List RowPiece = in_room skin room all (page_row_pieces skin (Some width) true (row_behind front line)) in
    let bare : List RowPiece = (before ++ f) ++ (plain ++ (b ++ behind)) in
    let sides = faces_fill skin gutters front.fresh faces_shown counted.typed in
    let before_shown : AreShownPieces before = shown_spaces skin.paragraph.compound_style room.left in
    let behind_shown : AreShownPieces behind = shown_spaces skin.paragraph.compound_style (all - room.end) in
    let toned_shown : AreShownPieces toned =
    (toned_fills (pieces_columns plain) front.marks (tone_styles skin) front.number inner (Some rest) true line (record { shown = shown; columns = refl })).shown in
    let row_shown : AreShownPieces (f ++ (toned ++ b)) = all_joined IsShownPiece f _ sides.front.shown (all_joined IsShownPiece toned _ toned_shown sides.back.shown) in
    let plain_shown : AreShownPieces (f ++ (plain ++ b)) = all_joined IsShownPiece f _ sides.front.shown (all_joined IsShownPiece plain _ shown sides.back.shown) in
    let same : told_cells (λ pen. plain_pen) (f ++ (toned ++ b)) ≡ told_cells (λ pen. plain_pen) (f ++ (plain ++ b)) = row_told (λ pen. plain_pen) skin (Some width) true (row_behind front line) (λ v style. refl) shown in
    let told : told_cells (λ pen. plain_pen) placed ≡ told_cells (λ pen. plain_pen) bare =
    told_amid before (f ++ (toned ++ b)) (f ++ (plain ++ b)) behind before_shown row_shown plain_shown behind_shown same ∙ ap (told_cells (λ pen. plain_pen)) (sides_joined before f plain b behind) in
    let front_shown : AreShownPieces (before ++ f) = all_joined IsShownPiece before f before_shown sides.front.shown in
    let back_shown : AreShownPieces (b ++ behind) = all_joined IsShownPiece b behind sides.back.shown behind_shown in
    let bare_shown : AreShownPieces bare = all_joined IsShownPiece (before ++ f) _ front_shown (all_joined IsShownPiece plain _ shown back_shown) in
    let wide : pieces_columns (before ++ f) ≡ room.left + fronts skin gutters =
    let both = columns-both before f in let blank = spaces_columns skin.paragraph.compound_style room.left in let own = sides.front.columns in omega (arith, both, blank, own) in
    all_styled style room.end placed (capped (room.left + fronts skin gutters)) hits
    (stands_toned room.end placed bare told (map (further (capped (room.left + fronts skin gutters))) hits)
    (amid_stand inner room.end rest (room.left + fronts skin gutters) sought lines starts row hits line (before ++ f) (b ++ behind) is narrow wide counted.counts bare_shown h))

pub drawn_hits_stand : DrawnHitsStand
drawn_hits_stand skin style room all sought lines fs starts y [] bytes narrow faces_shown marked = tt
drawn_hits_stand skin style room all sought lines fs starts y (row ∷ rows) bytes narrow faces_shown marked = (
  λ line is counted shown. hits_change_no_character skin style room all sought lines (front_at fs row) starts row marked.3.hits line is narrow faces_shown counted shown marked.3.are,
  drawn_hits_stand skin style room all sought lines fs starts (y + 1) rows marked.1 narrow faces_shown marked.4,
)

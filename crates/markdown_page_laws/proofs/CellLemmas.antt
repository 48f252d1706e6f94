-- Cells between their blanks.
use Rattle.std.proofs.Common.{◌≡◌, ℕ, ◌||◌, Bool, true, false, List, [], ◌∷◌, ◌++◌, map, Option, Some, None, refl, ap, sym, ◌∙◌, append_assoc, if◌then◌else◌}
use Rattle.std.specs.List.{flat_map}
use Rattle.mad_style.specs.declared.compound_styles.CompoundStyle.{CompoundStyle}
use Rattle.mad_style.specs.declared.line_styles.LineStyle.{LineStyle}
use Rattle.mad_draw.specs.Pieces.{RowPiece, spaces}
use Rattle.mad_format.specs.LineRules.{beside_cell}
use Rattle.mad_format.specs.declared.composite.FmtComposite.{FmtComposite}
use Rattle.mad_format.specs.declared.line.FmtLine.{FmtLine}
use Rattle.mad_format.specs.declared.line.FmtLine.TheVariants.{TableRow}
use Rattle.mad_format.specs.declared.table.FmtTableRow.{FmtTableRow}
use Rattle.mad_rows.specs.Rows.{prefix_pieces, compound_piece, inner_blanks, composite_pieces, left_of_place, right_of_place, vertical_piece, cell_pieces, row_columns, line_pieces}
use Rattle.mad_rows.specs.RowStyles.{line_style, tone_styles}
use Rattle.mad_rows.specs.declared.row_skin.RowSkin.{RowSkin}
use Rattle.mad_mark_runs.specs.declared.mark_runs.MarkRun.{MarkRun}
use Rattle.mad_pages.specs.Fronts.{front_of}
use Rattle.mad_page_rows.specs.Faces.{bold_behind, emboldened, has_ascii_boxes, faces, columns_behind, backs, level_above, in_box, ruled, line_skin, behind_pieces, toned_pieces}
use Rattle.markdown_page_laws.specs.CellBlanks.{IsBetweenBlanks, AreBetweenBlanks, CellsHaveBlanks}
use Rattle.markdown_page_laws.specs.Marks.{Mark, border, mark_text, bytes_of, runs_of}
use Rattle.markdown_page_laws.proofs.MarkLemmas.{boxed, composite_text, in_other, line_mark}

-- ---- one cell

regrouped : (one two three four last : List RowPiece) → one ++ (two ++ (three ++ (four ++ last))) ≡ (one ++ (two ++ (three ++ (four ++ [])))) ++ last
regrouped one two three four last =
    sym (append_assoc one (two ++ (three ++ (four ++ []))) last
    ∙ ap (λ (all : List RowPiece). one ++ all) (append_assoc two (three ++ (four ++ [])) last
    ∙ ap (λ (all : List RowPiece). two ++ all) (append_assoc three (four ++ []) last ∙ ap (λ (all : List RowPiece). three ++ all) (append_assoc four [] last))))

-- a cell with a blank at both sides is what it is by itself, between them
one_cell : (skin : RowSkin) (cell : FmtComposite) → skin.cell_blanks ≡ true → IsBetweenBlanks skin cell (cell_pieces skin cell)
one_cell skin cell h =
    let style : LineStyle = line_style skin cell.kind in
    let beside : RowPiece = record { style = skin.paragraph.compound_style.object_style; text = 32 ∷ [] } in
    let before : List RowPiece = spaces style.compound_style (inner_blanks cell).0 in
    let own : List RowPiece = map (compound_piece skin style) cell.compounds.items in
    let behind : List RowPiece = spaces style.compound_style (inner_blanks cell).1 in
    record {
      left = vertical_piece skin;
      before = beside;
      inside = composite_pieces skin None (0, 0) false cell;
      after = beside;
      pieces = ap (λ (b : Bool). vertical_piece skin ∷ composite_pieces skin None (beside_cell b, beside_cell b) true cell) h
          ∙ ap (λ (all : List RowPiece). vertical_piece skin ∷ beside ∷ all) (regrouped before (prefix_pieces skin cell.kind) own behind (beside ∷ []));
      left_is = refl;
      before_is = refl;
      after_is = refl;
      text = composite_text skin None (0, 0) false cell;
    }

-- ---- cells in a skin whose marks are marks of another

in_another : (skin other : RowSkin) → mark_text other border ≡ mark_text skin border → ((mark : Mark) → (own : Mark) × (mark_text other mark ≡ mark_text skin own))
    → (cell : FmtComposite) (ps : List RowPiece) → IsBetweenBlanks other cell ps → IsBetweenBlanks skin cell ps
in_another skin other borders marks cell ps h = record {
  left = h.left;
  before = h.before;
  inside = h.inside;
  after = h.after;
  pieces = h.pieces;
  left_is = h.left_is ∙ borders;
  before_is = h.before_is;
  after_is = h.after_is;
  text = in_other skin other marks (bytes_of (runs_of cell)) h.inside h.text;
}

all_cells : (skin other : RowSkin) → mark_text other border ≡ mark_text skin border → ((mark : Mark) → (own : Mark) × (mark_text other mark ≡ mark_text skin own)) → other.cell_blanks ≡ true
    → (cells : List FmtComposite) → AreBetweenBlanks skin cells (flat_map (cell_pieces other) cells ++ vertical_piece other ∷ [])
all_cells skin other borders marks h [] = (vertical_piece other, refl, borders)
all_cells skin other borders marks h (cell ∷ cells) =
    let last : List RowPiece = vertical_piece other ∷ [] in (
      cell_pieces other cell,
      flat_map (cell_pieces other) cells ++ last,
      append_assoc (cell_pieces other cell) (flat_map (cell_pieces other) cells) last,
      in_another skin other borders marks cell (cell_pieces other cell) (one_cell other cell h),
      all_cells skin other borders marks h cells,
    )

-- ---- the skin of a row's line

same_blanks : (skin : RowSkin) (b : Bool) (level : Option ℕ) (bold : CompoundStyle) → (emboldened (ruled (boxed skin b) level) bold).cell_blanks ≡ skin.cell_blanks
same_blanks skin true None bold = refl
same_blanks skin true (Some level) bold = refl
same_blanks skin false None bold = refl
same_blanks skin false (Some level) bold = refl

same_border : (skin : RowSkin) (b : Bool) (level : Option ℕ) (bold : CompoundStyle) → mark_text (emboldened (ruled (boxed skin b) level) bold) border ≡ mark_text skin border
same_border skin true None bold = refl
same_border skin true (Some level) bold = refl
same_border skin false None bold = refl
same_border skin false (Some level) bold = refl

-- ---- rows

-- tones change no row of a table
untoned : (runs : List MarkRun) (tones : List CompoundStyle) (n : ℕ) (skin : RowSkin) (outer : Option ℕ) (filled : Bool) (table : FmtTableRow)
    → toned_pieces runs tones n skin outer filled (TableRow table) ≡ line_pieces skin outer filled (TableRow table)
untoned [] tones n skin outer filled table = refl
untoned (run ∷ runs) [] n skin outer filled table = refl
untoned (run ∷ runs) (tone ∷ tones) n skin outer filled table = refl

between : (fronts left own right backs : List RowPiece) → fronts ++ ((left ++ (own ++ right)) ++ backs) ≡ (fronts ++ left) ++ (own ++ (right ++ backs))
between fronts left own right backs =
    ap (λ (all : List RowPiece). fronts ++ all) (append_assoc left (own ++ right) backs ∙ ap (λ (all : List RowPiece). left ++ all) (append_assoc own right backs))
    ∙ sym (append_assoc fronts left (own ++ (right ++ backs)))

-- in each row of a table that is drawn in a skin with blanks, each cell is between its own
pub cells_have_blanks : CellsHaveBlanks
cells_have_blanks skin outer filled row table h is =
    let boxes : Bool = in_box skin row.gutters in
    let level : Option ℕ = level_above row.gutters in
    let bold : CompoundStyle = bold_behind skin (front_of row) in
    let other : RowSkin = line_skin skin (front_of row) in
    let columns : Option ℕ = columns_behind (has_ascii_boxes skin) outer row.gutters in
    let fill : Bool = filled || boxes in
    let cells : List FmtComposite = table.cells.items in
    let own : List RowPiece = flat_map (cell_pieces other) cells ++ vertical_piece other ∷ [] in
    let left : List RowPiece = spaces other.paragraph.compound_style (left_of_place other.table.align (row_columns other cells) columns) in
    let right : List RowPiece = if fill then spaces other.paragraph.compound_style (right_of_place other.table.align (row_columns other cells) columns) else [] in
    let behind : behind_pieces skin outer filled row ≡ line_pieces other columns fill (TableRow table) =
    ap (λ (line : FmtLine). toned_pieces row.marks (tone_styles skin) row.number other columns fill line) is ∙ untoned row.marks (tone_styles skin) row.number other columns fill table in (
      faces skin row.gutters row.fresh ++ left,
      own,
      right ++ backs skin row.gutters,
      ap (λ (ps : List RowPiece). faces skin row.gutters row.fresh ++ (ps ++ backs skin row.gutters)) behind ∙ between (faces skin row.gutters row.fresh) left own right (backs skin row.gutters),
      all_cells skin other (same_border skin boxes level bold) (line_mark skin (front_of row)) (same_blanks skin boxes level bold ∙ h) cells,
    )

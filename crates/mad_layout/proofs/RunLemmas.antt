-- Lines of any kind: the columns that they fill, and that they are shown.
use Rattle.std.proofs.Common.{◌≡◌, ℕ, ◌+◌, ◌-◌, ◌≤◌, List, [], ◌∷◌, ◌++◌, Some, true, refl, arith}
use Rattle.std.specs.Prelude.{None}
use Rattle.std.specs.List.{AllByRecursion, flat_map}
use Rattle.std.specs.Str.{chars}
use Rattle.mad_md.specs.declared.alignment.Alignment.{Alignment}
use Rattle.mad_style.specs.StyledChars.{styled_char}
use Rattle.mad_style.specs.declared.compound_styles.CompoundStyle.{CompoundStyle}
use Rattle.mad_measure.specs.TextColumns.{columns}
use Rattle.mad_measure.specs.Completions.{left_completion}
use Rattle.mad_measure.proofs.AllLemmas.{all_joined}
use Rattle.mad_draw.specs.Pieces.{RowPiece, AreShownPieces, IsColumnPiece, IsShownPiece, pieces_columns, spaces}
use Rattle.mad_draw.specs.TableRules.{border_piece, horizontals, junction, rule_pieces}
use Rattle.mad_draw.specs.declared.table_rules.RuleChars.{RuleChars}
use Rattle.mad_draw.proofs.PieceLemmas.{columns-both, spaces_columns, shown_spaces}
use Rattle.mad_draw.proofs.RunLemmas.{run_columns, run_shown}
use Rattle.mad_rows.specs.declared.row_skin.RowSkin.{RowSkin}
use Rattle.mad_format.specs.declared.composite.FmtComposite.{FmtComposite}
use Rattle.mad_format.specs.declared.line.FmtLine.{FmtLine}
use Rattle.mad_format.specs.declared.line.FmtLine.TheVariants.{Normal, TableRow, TableRule, HorizontalRule}
use Rattle.mad_layout.specs.Drawable.{AreShownChars, FillsItsPlace, IsDrawableLine}
use Rattle.mad_format.specs.FmtLines.{bordered, rule_columns}
use Rattle.mad_format.specs.LineRules.{around_cell}
use Rattle.mad_rows.specs.Rows.{cell_margins, cell_pieces, composite_pieces, inner_columns, left_of_place, line_pieces, placed_pieces, right_of_place, row_columns, rule_chars, vertical_piece}
use Rattle.mad_layout.proofs.RowLemmas.{cell_columns, cell_shown, left_completion-le, line_columns, line_shown}

-- ---- a row of cells

cells_columns : (skin : RowSkin) (cells : List FmtComposite) → AllByRecursion (FillsItsPlace skin) cells → IsColumnPiece (vertical_piece skin)
    → pieces_columns (flat_map (cell_pieces skin) cells ++ vertical_piece skin ∷ []) ≡ row_columns skin cells
cells_columns skin [] h b = let one : columns (chars (vertical_piece skin).text) ≡ 1 = b.one in omega (arith, one)
cells_columns skin (l ∷ ls) h b =
    let last : List RowPiece = vertical_piece skin ∷ [] in
    let front : List RowPiece = composite_pieces skin None (cell_margins skin) true l in
    let others : List RowPiece = flat_map (cell_pieces skin) ls in
    let rest : pieces_columns (others ++ last) ≡ row_columns skin ls = cells_columns skin ls h.1 b in
    let own : pieces_columns front ≡ inner_columns l + around_cell skin.cell_blanks = cell_columns skin l h.0 in
    let one : columns (chars (vertical_piece skin).text) ≡ 1 = b.one in
    let e1 : pieces_columns ((front ++ others) ++ last) ≡ pieces_columns (front ++ others) + pieces_columns last = columns-both (front ++ others) last in
    let e2 : pieces_columns (front ++ others) ≡ pieces_columns front + pieces_columns others = columns-both front others in
    let e3 : pieces_columns (others ++ last) ≡ pieces_columns others + pieces_columns last = columns-both others last in
    omega (arith, rest, own, one, e1, e2, e3)

cells_shown : (skin : RowSkin) (cells : List FmtComposite) → AllByRecursion (FillsItsPlace skin) cells → IsColumnPiece (vertical_piece skin) → AreShownPieces (flat_map (cell_pieces skin) cells)
cells_shown skin [] h b = tt
cells_shown skin (l ∷ ls) h b = all_joined IsShownPiece (cell_pieces skin l) (flat_map (cell_pieces skin) ls) (b.shown, cell_shown skin l h.0) (cells_shown skin ls h.1 b)

-- ---- a rule across columns

-- columns with a junction before each
junctions_columns : (skin : RowSkin) (ends : RuleChars) (ws : List ℕ) → AreShownChars skin ends → pieces_columns (flat_map (junction skin.table.compound_style ends) ws) ≡ bordered ws
junctions_columns skin ends [] h = refl
junctions_columns skin ends (w ∷ ws) h =
    let style : CompoundStyle = skin.table.compound_style in
    let run : List RowPiece = horizontals style ends w in
    let others : List RowPiece = flat_map (junction style ends) ws in
    let rest : pieces_columns others ≡ bordered ws = junctions_columns skin ends ws h in
    let own : pieces_columns run ≡ w = run_columns (styled_char style ends.horizontal) w h.horizontal in
    let one : columns (chars (border_piece style ends.between).text) ≡ 1 = h.between.one in
    let both : pieces_columns (run ++ others) ≡ pieces_columns run + pieces_columns others = columns-both run others in
    omega (arith, rest, own, one, both)

junctions_shown : (skin : RowSkin) (ends : RuleChars) (ws : List ℕ) → AreShownChars skin ends → AreShownPieces (flat_map (junction skin.table.compound_style ends) ws)
junctions_shown skin ends [] h = tt
junctions_shown skin ends (w ∷ ws) h =
    let style : CompoundStyle = skin.table.compound_style in
    all_joined IsShownPiece (junction style ends w) (flat_map (junction style ends) ws) (h.between.shown, run_shown (styled_char style ends.horizontal) w h.horizontal) (junctions_shown skin ends ws h)

across_columns : (skin : RowSkin) (ends : RuleChars) (ws : List ℕ) → AreShownChars skin ends → pieces_columns (rule_pieces skin.table.compound_style ends ws) ≡ rule_columns ws
across_columns skin ends [] h =
    let left : columns (chars (border_piece skin.table.compound_style ends.left).text) ≡ 1 = h.left.one in
    let right : columns (chars (border_piece skin.table.compound_style ends.right).text) ≡ 1 = h.right.one in
    omega (arith, left, right)
across_columns skin ends (w ∷ ws) h =
    let style : CompoundStyle = skin.table.compound_style in
    let last : List RowPiece = border_piece style ends.right ∷ [] in
    let run : List RowPiece = horizontals style ends w in
    let others : List RowPiece = flat_map (junction style ends) ws in
    let left : columns (chars (border_piece style ends.left).text) ≡ 1 = h.left.one in
    let right : columns (chars (border_piece style ends.right).text) ≡ 1 = h.right.one in
    let rest : pieces_columns others ≡ bordered ws = junctions_columns skin ends ws h in
    let own : pieces_columns run ≡ w = run_columns (styled_char style ends.horizontal) w h.horizontal in
    let e1 : pieces_columns (run ++ (others ++ last)) ≡ pieces_columns run + pieces_columns (others ++ last) = columns-both run (others ++ last) in
    let e2 : pieces_columns (others ++ last) ≡ pieces_columns others + pieces_columns last = columns-both others last in
    omega (arith, left, right, rest, own, e1, e2)

across_shown : (skin : RowSkin) (ends : RuleChars) (ws : List ℕ) → AreShownChars skin ends → AreShownPieces (rule_pieces skin.table.compound_style ends ws)
across_shown skin ends [] h = (h.left.shown, (h.right.shown, tt))
across_shown skin ends (w ∷ ws) h =
    let style : CompoundStyle = skin.table.compound_style in
    let last : List RowPiece = border_piece style ends.right ∷ [] in
    let others : List RowPiece = flat_map (junction style ends) ws in (
      h.left.shown,
      all_joined IsShownPiece (horizontals style ends w) (others ++ last) (run_shown (styled_char style ends.horizontal) w h.horizontal)
          (all_joined IsShownPiece others last (junctions_shown skin ends ws h) (h.right.shown, tt)),
    )

-- ---- in a wider place

placed_columns : (skin : RowSkin) (width n : ℕ) (ps : List RowPiece) → pieces_columns ps ≡ n → n ≤ width → pieces_columns (placed_pieces skin (Some width) true n ps) ≡ width
placed_columns skin width n ps count fits =
    let blank : CompoundStyle = skin.paragraph.compound_style in
    let align : Alignment = skin.table.align in
    let half : left_completion align (width - n) ≤ width - n = left_completion-le align (width - n) in
    let before : ℕ = left_of_place align n (Some width) in
    let after : ℕ = right_of_place align n (Some width) in
    let e1 : pieces_columns (spaces blank before ++ (ps ++ spaces blank after)) ≡ pieces_columns (spaces blank before) + pieces_columns (ps ++ spaces blank after) = columns-both (spaces blank before) (ps ++ spaces blank after) in
    let e2 : pieces_columns (ps ++ spaces blank after) ≡ pieces_columns ps + pieces_columns (spaces blank after) = columns-both ps (spaces blank after) in
    let s1 : pieces_columns (spaces blank before) ≡ before = spaces_columns blank before in
    let s2 : pieces_columns (spaces blank after) ≡ after = spaces_columns blank after in
    omega (arith, count, fits, half, e1, e2, s1, s2)

placed_shown : (skin : RowSkin) (width n : ℕ) (ps : List RowPiece) → AreShownPieces ps → AreShownPieces (placed_pieces skin (Some width) true n ps)
placed_shown skin width n ps h =
    let blank : CompoundStyle = skin.paragraph.compound_style in
    all_joined IsShownPiece (spaces blank (left_of_place skin.table.align n (Some width))) _ (shown_spaces blank (left_of_place skin.table.align n (Some width)))
    (all_joined IsShownPiece ps _ h (shown_spaces blank (right_of_place skin.table.align n (Some width))))

-- ---- any line

-- a line of any kind that is drawn exactly fills its row
pub any_columns : (skin : RowSkin) (width : ℕ) (line : FmtLine) → IsDrawableLine skin width line → pieces_columns (line_pieces skin (Some width) true line) ≡ width
any_columns skin width (Normal l) h = line_columns skin width l h
any_columns skin width (TableRow row) h =
    placed_columns skin width (row_columns skin row.cells.items) (flat_map (cell_pieces skin) row.cells.items ++ vertical_piece skin ∷ []) (cells_columns skin row.cells.items h.each h.border) h.fits
any_columns skin width (TableRule rule) h =
    let ends : RuleChars = rule_chars skin.table_border_chars rule.position in
    placed_columns skin width (rule_columns rule.widths.items) (rule_pieces skin.table.compound_style ends rule.widths.items) (across_columns skin ends rule.widths.items h.chars) h.fits
any_columns skin width HorizontalRule h = run_columns skin.horizontal_rule width h

-- its pieces show cells of their own
pub any_shown : (skin : RowSkin) (width : ℕ) (line : FmtLine) → IsDrawableLine skin width line → AreShownPieces (line_pieces skin (Some width) true line)
any_shown skin width (Normal l) h = line_shown skin width l h
any_shown skin width (TableRow row) h =
    placed_shown skin width (row_columns skin row.cells.items) (flat_map (cell_pieces skin) row.cells.items ++ vertical_piece skin ∷ [])
    (all_joined IsShownPiece (flat_map (cell_pieces skin) row.cells.items) (vertical_piece skin ∷ []) (cells_shown skin row.cells.items h.each h.border) (h.border.shown, tt))
any_shown skin width (TableRule rule) h =
    let ends : RuleChars = rule_chars skin.table_border_chars rule.position in
    placed_shown skin width (rule_columns rule.widths.items) (rule_pieces skin.table.compound_style ends rule.widths.items) (across_shown skin ends rule.widths.items h.chars)
any_shown skin width HorizontalRule h = run_shown skin.horizontal_rule width h

-- The characters of a table's lines across the columns that are drawn.
use Rattle.std.proofs.Common.{◌≡◌, ℕ, ◌+◌, ◌-◌, ◌≤◌, List, [], ◌∷◌, ◌++◌, map, length, replicate, drop, chars, false, true, Option, Some, None, refl, ap, sym, ◌∙◌, subst, arith, append_assoc}
use Rattle.std.specs.Prelude.{slice_get, unwrap_or}
use Rattle.std.specs.List.{flat_map, repeat}
use Rattle.std.proofs.lemmas.List.{append-nil}
use Rattle.mad_md.specs.Flagged.{FlaggedChar, flagged_text}
use Rattle.mad_md.specs.declared.compound.Compound.{Compound}
use Rattle.mad_style.specs.StyledChars.{styled_char}
use Rattle.mad_style.specs.declared.compound_styles.CompoundStyle.{CompoundStyle}
use Rattle.mad_style.specs.declared.kinds.CompositeKind.{CompositeKind}
use Rattle.mad_style.specs.declared.kinds.CompositeKind.TheVariants.{Paragraph}
use Rattle.mad_style.specs.declared.line_styles.LineStyle.{LineStyle}
use Rattle.mad_measure.specs.Completions.{left_completion}
use Rattle.mad_measure.specs.declared.spacing.Spacing.{Spacing}
use Rattle.mad_draw.specs.Pieces.{RowPiece, spaces}
use Rattle.mad_draw.specs.TableRules.{border_piece, horizontals, junction, rule_pieces}
use Rattle.mad_draw.specs.declared.table_rules.RuleChars.{RuleChars}
use Rattle.mad_layout.specs.Drawable.{AreShownChars}
use Rattle.mad_layout.specs.FlaggedLines.{skin_char, front_of}
use Rattle.mad_layout.specs.FlaggedTables.{cell_blank, row_in_column, CellInColumn, first_row, first_rows, rows_down, rule_row, table_across, rule_across}
use Rattle.mad_format.specs.FmtLines.{bordered, rule_columns}
use Rattle.mad_format.specs.LineRules.{beside_cell}
use Rattle.mad_rows.specs.Rows.{cell_margins, prefix_pieces, compound_piece, composite_pieces, cell_pieces, vertical_piece, placed_pieces, row_columns, rule_chars, left_of_place, right_of_place, align_in, place_of, inner_blanks}
use Rattle.mad_rows.specs.RowStyles.{line_rules, line_style}
use Rattle.mad_blocks.specs.Tables.{with_blanks, in_column, IsBlankIn, IsTop, IsLineAcross, AreDown, below}
use Rattle.mad_format.specs.Wraps.{text_of, columns_of}
use Rattle.mad_rows.specs.declared.row_skin.RowSkin.{RowSkin}
use Rattle.mad_format.specs.declared.composite.FmtComposite.{FmtComposite}
use Rattle.mad_format.specs.declared.line.FmtLine.TheVariants.{TableRow, TableRule}
use Rattle.mad_format.specs.declared.table.FmtTableRow.{FmtTableRow}
use Rattle.mad_format.specs.declared.table.FmtTableRule.{FmtTableRule}
use Rattle.mad_format.specs.declared.table.RelativePosition.{RelativePosition}
use Rattle.mad_layout.proofs.DrawableTables.{widths_of, across_columns}
use Rattle.mad_layout.proofs.RowChars.{chars_in, line_chars, first_piece, both, spaces_chars, spaces_both, compounds_chars, front_chars, run_chars}
use Rattle.mad_layout.proofs.RowLemmas.{left_completion-le}
use Rattle.mad_layout.proofs.SoundLines.{IsSoundPrefix}

-- ---- a row of a cell

-- what is written of a cell in its place
abbrev pub cell_chars : RowSkin → FmtComposite → List ℕ
cell_chars skin x = chars_in (composite_pieces skin None (0, 0) false x)

between_blanks : (skin : RowSkin) (l : FmtComposite) → IsSoundPrefix skin l.kind
    → cell_chars skin l ≡ replicate (inner_blanks l).0 32 ++ (front_of skin l.kind ++ (map (λ (x : FlaggedChar). x.char) (text_of l) ++ replicate (inner_blanks l).1 32))
between_blanks skin l prefix =
    let style : LineStyle = line_style skin l.kind in
    let own : CompoundStyle = style.compound_style in
    let text : List ℕ = map (λ (x : FlaggedChar). x.char) (text_of l) in
    let tail2 : List RowPiece = map (compound_piece skin style) l.compounds.items ++ (spaces own (inner_blanks l).1 ++ []) in
    let tail1 : List RowPiece = prefix_pieces skin l.kind ++ tail2 in
    let e3 : chars_in (spaces own (inner_blanks l).1 ++ []) ≡ replicate (inner_blanks l).1 32 = ap chars_in (append-nil (spaces own (inner_blanks l).1)) ∙ spaces_chars own (inner_blanks l).1 in
    let e2 : chars_in tail2 ≡ text ++ replicate (inner_blanks l).1 32 =
    both (map (compound_piece skin style) l.compounds.items) (spaces own (inner_blanks l).1 ++ []) ∙ ap (λ x. x ++ chars_in (spaces own (inner_blanks l).1 ++ [])) (compounds_chars skin style l.compounds.items) ∙ ap (λ x. text ++ x) e3 in
    let e1 : chars_in tail1 ≡ front_of skin l.kind ++ (text ++ replicate (inner_blanks l).1 32) =
    both (prefix_pieces skin l.kind) tail2 ∙ ap (λ x. x ++ chars_in tail2) (front_chars skin l.kind prefix) ∙ ap (λ x. front_of skin l.kind ++ x) e2 in
    both (spaces own (inner_blanks l).0) tail1 ∙ ap (λ x. x ++ chars_in tail1) (spaces_chars own (inner_blanks l).0) ∙ ap (λ x. replicate (inner_blanks l).0 32 ++ x) e1

-- blanks at the end of four parts
at_end : (a b c d s : List RowPiece) → a ++ (b ++ (c ++ (d ++ s))) ≡ (a ++ (b ++ (c ++ (d ++ [])))) ++ s
at_end a b c d s =
    sym
    (ap (λ (x : List RowPiece). (a ++ (b ++ (c ++ x))) ++ s) (append-nil d) ∙ append_assoc a (b ++ (c ++ d)) s
    ∙ ap (λ (x : List RowPiece). a ++ x) (append_assoc b (c ++ d) s ∙ ap (λ (x : List RowPiece). b ++ x) (append_assoc c d s)))

-- what is written of a cell between its blanks
beside_blanks : (skin : RowSkin) (x : FmtComposite) → chars_in (composite_pieces skin None (cell_margins skin) true x) ≡ cell_blank skin ++ (cell_chars skin x ++ cell_blank skin)
beside_blanks skin x =
    let style : LineStyle = line_style skin x.kind in
    let n : ℕ = 0 + beside_cell skin.cell_blanks in
    let same : n ≡ beside_cell skin.cell_blanks = omega arith in
    let beside : List RowPiece = spaces skin.paragraph.compound_style n in
    let before : List RowPiece = spaces style.compound_style (inner_blanks x).0 in
    let prefix : List RowPiece = prefix_pieces skin x.kind in
    let text : List RowPiece = map (compound_piece skin style) x.compounds.items in
    let after : List RowPiece = spaces style.compound_style (inner_blanks x).1 in
    let own : List RowPiece = before ++ (prefix ++ (text ++ (after ++ []))) in
    let blank : chars_in beside ≡ cell_blank skin = spaces_chars skin.paragraph.compound_style n ∙ ap (λ k. replicate k 32) same in
    let ends : chars_in (before ++ (prefix ++ (text ++ (after ++ beside)))) ≡ cell_chars skin x ++ cell_blank skin =
    ap chars_in (at_end before prefix text after beside) ∙ both own beside ∙ ap (λ t. chars_in own ++ t) blank in
    both beside (before ++ (prefix ++ (text ++ (after ++ beside)))) ∙ ap (λ t. t ++ chars_in (before ++ (prefix ++ (text ++ (after ++ beside))))) blank ∙ ap (λ t. cell_blank skin ++ t) ends

-- a line of a cell is a row in its column
pub column_chars : (skin : RowSkin) (c : Spacing) (l : FmtComposite) → IsSoundPrefix skin l.kind → l.visible_length ≡ columns_of (line_rules skin) l → cell_chars skin (in_column c l) ≡ row_in_column skin c l.kind (text_of l)
column_chars skin c l prefix same =
    let text : List ℕ = map (λ (x : FlaggedChar). x.char) (text_of l) in
    between_blanks skin (in_column c l) prefix
    ∙ ap (λ n. replicate (left_completion c.align (c.width - n)) 32 ++ (front_of skin l.kind ++ (text ++ replicate ((c.width - n) - left_completion c.align (c.width - n)) 32))) same

-- an empty paragraph is spaces
blank_chars : (skin : RowSkin) (c : Spacing) (x : FmtComposite) → IsBlankIn c x → cell_chars skin x ≡ replicate c.width 32
blank_chars skin c x h =
    let shape : CompositeKind → List Compound → ℕ → Option Spacing → List ℕ = λ k ps n s.
    replicate (left_of_place (align_in s) n (place_of s)) 32 ++ (front_of skin k ++ (map (λ (y : FlaggedChar). y.char) (flagged_text ps) ++ replicate (right_of_place (align_in s) n (place_of s)) 32)) in
    let half : left_completion c.align (c.width - 0) ≤ c.width - 0 = left_completion-le c.align (c.width - 0) in
    let all : left_completion c.align (c.width - 0) + ((c.width - 0) - left_completion c.align (c.width - 0)) ≡ c.width = omega (arith, half) in
    between_blanks skin x (subst (IsSoundPrefix skin) (sym h.kind) tt)
    ∙ ap (λ k. shape k x.compounds.items x.visible_length x.spacing) h.kind ∙ ap (λ ps. shape Paragraph ps x.visible_length x.spacing) h.empty
    ∙ ap (λ n. shape Paragraph [] n x.spacing) h.length_is ∙ ap (λ s. shape Paragraph [] 0 s) h.spacing
    ∙ spaces_both (left_completion c.align (c.width - 0)) ((c.width - 0) - left_completion c.align (c.width - 0)) ∙ ap (λ n. replicate n 32) all

-- ---- a row of a table

-- the lines of a cell as rows in its column
abbrev pub lines_rows : RowSkin → Spacing → List FmtComposite → List (List ℕ)
lines_rows skin c ls = map (λ l. cell_chars skin (in_column c l)) ls

-- the lines of each cell so
abbrev pub placed_lines : RowSkin → List Spacing → List (List FmtComposite) → List CellInColumn
placed_lines skin [] lines = []
placed_lines skin (c ∷ cs) [] = []
placed_lines skin (c ∷ cs) (ls ∷ lines) = record { width = c.width; rows = lines_rows skin c ls } ∷ placed_lines skin cs lines

top_chars : (skin : RowSkin) (c : Spacing) (ls : List FmtComposite) (x : FmtComposite) → IsTop c ls x → cell_chars skin x ≡ unwrap_or (slice_get (lines_rows skin c ls) 0) (replicate c.width 32)
top_chars skin c [] x top = blank_chars skin c x top
top_chars skin c (l ∷ ls) x top = ap (cell_chars skin) top

one_char : (p : RowPiece) → chars_in (p ∷ []) ≡ chars p.text
one_char p = first_piece p [] ∙ append-nil (chars p.text)

across_chars : (skin : RowSkin) (cs : List Spacing) (lines : List (List FmtComposite)) (xs : List FmtComposite) → IsLineAcross cs lines xs
    → chars_in (flat_map (cell_pieces skin) xs ++ vertical_piece skin ∷ []) ≡ first_rows skin (placed_lines skin cs lines)
across_chars skin [] [] [] across = one_char (vertical_piece skin)
across_chars skin (c ∷ cs) (ls ∷ lines) (x ∷ xs) across =
    let last : List RowPiece = vertical_piece skin ∷ [] in
    let border : List ℕ = skin_char skin.table_border_chars.vertical in
    let cell : CellInColumn = record { width = c.width; rows = lines_rows skin c ls } in
    let rest : List CellInColumn = placed_lines skin cs lines in
    ap chars_in (append_assoc (cell_pieces skin x) (flat_map (cell_pieces skin) xs) last)
    ∙ both (cell_pieces skin x) (flat_map (cell_pieces skin) xs ++ last)
    ∙ ap (λ t. t ++ chars_in (flat_map (cell_pieces skin) xs ++ last)) (first_piece (vertical_piece skin) (composite_pieces skin None (cell_margins skin) true x) ∙ ap (λ t. border ++ t) (beside_blanks skin x ∙ ap (λ t. cell_blank skin ++ (t ++ cell_blank skin)) (top_chars skin c ls x across.0)))
    ∙ ap (λ t. first_row skin cell ++ t) (across_chars skin cs lines xs across.1)
    ∙ sym (append_assoc (first_row skin cell) (flat_map (first_row skin) rest) border)
across_chars skin _ _ _ across = absurd across

below_placed : (skin : RowSkin) (cs : List Spacing) (lines : List (List FmtComposite)) → placed_lines skin cs (map below lines) ≡ map (λ (cell : CellInColumn). record cell { rows = drop 1 cell.rows }) (placed_lines skin cs lines)
below_placed skin [] lines = refl
below_placed skin (c ∷ cs) [] = refl
below_placed skin (c ∷ cs) ([] ∷ lines) = ap (λ (cells : List CellInColumn). record { width = c.width; rows = [] } ∷ cells) (below_placed skin cs lines)
below_placed skin (c ∷ cs) ((l ∷ ls) ∷ lines) = ap (λ (cells : List CellInColumn). record { width = c.width; rows = lines_rows skin c ls } ∷ cells) (below_placed skin cs lines)

-- pieces in the place of a table
placed_chars : (skin : RowSkin) (drawn : ℕ) (columns : ℕ) (ps : List RowPiece) → chars_in (placed_pieces skin (Some drawn) true columns ps) ≡ table_across skin drawn columns (chars_in ps)
placed_chars skin drawn columns ps =
    let blank : CompoundStyle = skin.paragraph.compound_style in
    let rest : ℕ = drawn - columns in
    let left : ℕ = left_completion skin.table.align rest in
    both (spaces blank left) (ps ++ spaces blank (rest - left)) ∙ ap (λ t. t ++ chars_in (ps ++ spaces blank (rest - left))) (spaces_chars blank left)
    ∙ ap (λ t. replicate left 32 ++ t) (both ps (spaces blank (rest - left)) ∙ ap (λ t. chars_in ps ++ t) (spaces_chars blank (rest - left)))

-- the lines of a row of a table have the characters of its cells' rows across the columns
pub down_chars : (skin : RowSkin) (drawn : ℕ) (cs : List Spacing) (lines : List (List FmtComposite)) (rows : List FmtTableRow) → AreDown cs lines rows
    → map (line_chars skin drawn) (map TableRow rows) ≡ map (table_across skin drawn (1 + bordered (with_blanks skin.cell_blanks (widths_of cs)))) (rows_down skin (length rows) (placed_lines skin cs lines))
down_chars skin drawn cs lines [] down = refl
down_chars skin drawn cs lines (row ∷ rows) down =
    let pieces : List RowPiece = flat_map (cell_pieces skin) row.cells.items ++ vertical_piece skin ∷ [] in
    let columns : ℕ = 1 + bordered (with_blanks skin.cell_blanks (widths_of cs)) in
    let across : ℕ → List ℕ → List ℕ = table_across skin drawn in
    let first : line_chars skin drawn (TableRow row) ≡ across columns (first_rows skin (placed_lines skin cs lines)) =
    placed_chars skin drawn (row_columns skin row.cells.items) pieces ∙ ap (λ n. across n (chars_in pieces)) (across_columns skin cs lines row.cells.items down.0) ∙ ap (across columns) (across_chars skin cs lines row.cells.items down.0) in
    let rest = down_chars skin drawn cs (map below lines) rows down.1 ∙ ap (λ cells. map (across columns) (rows_down skin (length rows) cells)) (below_placed skin cs lines) in
    ap (λ (t : List ℕ). t ∷ map (line_chars skin drawn) (map TableRow rows)) first ∙ ap (λ ts. across columns (first_rows skin (placed_lines skin cs lines)) ∷ ts) rest

-- ---- a rule

junctions_chars : (style : CompoundStyle) (b : RuleChars) (ws : List ℕ) → ((n : ℕ) → chars_in (horizontals style b n) ≡ repeat n (skin_char b.horizontal))
    → chars_in (flat_map (junction style b) ws ++ border_piece style b.right ∷ []) ≡ flat_map (λ v. skin_char b.between ++ repeat v (skin_char b.horizontal)) ws ++ skin_char b.right
junctions_chars style b [] across = one_char (border_piece style b.right)
junctions_chars style b (w ∷ ws) across =
    let last : List RowPiece = border_piece style b.right ∷ [] in
    let column : ℕ → List ℕ = λ v. skin_char b.between ++ repeat v (skin_char b.horizontal) in
    ap chars_in (append_assoc (junction style b w) (flat_map (junction style b) ws) last)
    ∙ both (junction style b w) (flat_map (junction style b) ws ++ last)
    ∙ ap (λ t. t ++ chars_in (flat_map (junction style b) ws ++ last)) (first_piece (border_piece style b.between) (horizontals style b w) ∙ ap (λ t. skin_char b.between ++ t) (across w))
    ∙ ap (λ t. column w ++ t) (junctions_chars style b ws across)
    ∙ sym (append_assoc (column w) (flat_map column ws) (skin_char b.right))

rule_pieces_chars : (skin : RowSkin) (b : RuleChars) (ws : List ℕ) → AreShownChars skin b → chars_in (rule_pieces skin.table.compound_style b ws) ≡ rule_row b ws
rule_pieces_chars skin b [] shown =
    let style : CompoundStyle = skin.table.compound_style in
    first_piece (border_piece style b.left) (border_piece style b.right ∷ []) ∙ ap (λ t. skin_char b.left ++ t) (one_char (border_piece style b.right))
rule_pieces_chars skin b (w ∷ ws) shown =
    let style : CompoundStyle = skin.table.compound_style in
    let across : (n : ℕ) → chars_in (horizontals style b n) ≡ repeat n (skin_char b.horizontal) = λ n. run_chars (styled_char style b.horizontal) n shown.horizontal in
    let rest : List RowPiece = flat_map (junction style b) ws ++ border_piece style b.right ∷ [] in
    first_piece (border_piece style b.left) (horizontals style b w ++ rest)
    ∙ ap (λ t. skin_char b.left ++ t) (both (horizontals style b w) rest ∙ ap (λ t. t ++ chars_in rest) (across w) ∙ ap (λ t. repeat w (skin_char b.horizontal) ++ t) (junctions_chars style b ws across))

-- the line of a rule has the characters of the rule across its columns
pub rule_line_chars : (skin : RowSkin) (drawn : ℕ) (position : RelativePosition) (ws : List ℕ) (rule : FmtTableRule) → AreShownChars skin (rule_chars skin.table_border_chars position) → rule.position ≡ position → rule.widths.items ≡ with_blanks skin.cell_blanks ws
    → line_chars skin drawn (TableRule rule) ≡ rule_across skin drawn position ws
rule_line_chars skin drawn position ws rule shown place widths =
    let pieces : RelativePosition → List ℕ → List RowPiece = λ p vs. rule_pieces skin.table.compound_style (rule_chars skin.table_border_chars p) vs in
    let all : List ℕ = with_blanks skin.cell_blanks ws in
    ap (λ p. chars_in (placed_pieces skin (Some drawn) true (rule_columns rule.widths.items) (pieces p rule.widths.items))) place
    ∙ ap (λ vs. chars_in (placed_pieces skin (Some drawn) true (rule_columns vs) (pieces position vs))) widths
    ∙ placed_chars skin drawn (rule_columns all) (pieces position all) ∙ ap (table_across skin drawn (rule_columns all)) (rule_pieces_chars skin (rule_chars skin.table_border_chars position) all shown)

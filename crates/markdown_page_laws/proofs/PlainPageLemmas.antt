-- Pages in the skin without styles are text alone.
use Rattle.std.proofs.Common.{◌≡◌, ◌≢◌, inl, inr, ℕ, zero, suc, ◌+◌, ◌-◌, ◌==◌, ◌/◌, ◌%◌, nat_lt, not, ◌&&◌, ◌||◌, Bool, true, false, List, [], ◌∷◌, ◌++◌, map, length, take, drop, Option, Some, None, unwrap_or, replicate, decimal, if◌then◌else◌, refl, ap, ap₂, sym, ◌∙◌, subst, arith}
use Rattle.std.specs.Char.{encode_utf8}
use Rattle.std.specs.Prelude.{slice_get, min}
use Rattle.std.specs.Fmt.{digit_glyph, digits_onto, digits}
use Rattle.std.specs.Int.RustNames.{bit_or}
use Rattle.std.specs.List.{AllByRecursion, flat_map, list_all, repeat}
use Rattle.std.specs.Str.{bytes_eq}
use Rattle.std.proofs.lemmas.Bool.Decides.{nat_tests}
use Rattle.mad_term.specs.AttributeSets.{united}
use Rattle.mad_term.specs.Styles.{IsUnstyled}
use Rattle.mad_term.specs.declared.attributes.Attributes.{Attributes}
use Rattle.mad_term.proofs.SameAttributes.{same_bits}
use Rattle.mad_term.proofs.Pieces.{unstyled_piece}
use Rattle.mad_md.specs.Flagged.{Run, run_of}
use Rattle.mad_md.specs.declared.compound.Compound.{Compound}
use Rattle.mad_measure.proofs.AllLemmas.{all_joined}
use Rattle.mad_style.specs.CompoundStyles.{overwritten, unstyled}
use Rattle.mad_style.specs.LineStyles.{unstyled_line}
use Rattle.mad_style.specs.OrderedItems.{ordered_indent, unstyled_item}
use Rattle.mad_style.specs.StyledChars.{char_alone, char_style, styled_char}
use Rattle.mad_style.specs.declared.compound_styles.CompoundStyle.{CompoundStyle}
use Rattle.mad_style.specs.declared.kinds.CompositeKind.{CompositeKind}
use Rattle.mad_style.specs.declared.kinds.CompositeKind.TheVariants.{Code, Header, ListItem, ListItemFollowUp, OrderedListItem, OrderedListItemFollowUp, Quote}
use Rattle.mad_style.specs.declared.line_styles.LineStyle.{LineStyle}
use Rattle.mad_style.specs.declared.ordered_items.OrderedItemStyle.{OrderedItemStyle}
use Rattle.mad_style.specs.declared.styled_chars.StyledChar.{StyledChar}
use Rattle.mad_draw.specs.Pieces.{RowPiece, pieces_bytes, char_piece, char_repeat, spaces, single_spaces}
use Rattle.mad_draw.specs.TableRules.{horizontals, junction, rule_pieces}
use Rattle.mad_draw.specs.declared.table_rules.RuleChars.{RuleChars}
use Rattle.mad_format.specs.Indents.{later_indent}
use Rattle.mad_format.specs.FmtLines.{rule_columns}
use Rattle.mad_format.specs.declared.composite.FmtComposite.{FmtComposite}
use Rattle.mad_format.specs.declared.line.FmtLine.{FmtLine}
use Rattle.mad_format.specs.declared.line.FmtLine.TheVariants.{Normal, TableRow, TableRule, HorizontalRule}
use Rattle.mad_format.specs.declared.table.RelativePosition.{RelativePosition}
use Rattle.mad_format.specs.declared.table.RelativePosition.TheVariants.{Top, Other, Bottom}
use Rattle.mad_rows.specs.Rows.{cell_margins, prefix_pieces, compound_piece, inner_blanks, outer_blanks, margins_of, composite_pieces, left_of_place, right_of_place, placed_pieces, vertical_piece, cell_pieces, row_columns, rule_chars, line_pieces}
use Rattle.mad_rows.specs.RowStyles.{ellipsis_bytes, overwritten_if, line_style, compound_style, header_style, ordered_item_style}
use Rattle.mad_rows.specs.declared.row_skin.RowSkin.{RowSkin}
use Rattle.mad_sections.specs.Gutters.{gutter_columns}
use Rattle.mad_sections.specs.declared.gutters.Alert.{Alert}
use Rattle.mad_sections.specs.declared.gutters.Alert.TheVariants.{Note, Tip, Important, Warning, Caution}
use Rattle.mad_sections.specs.declared.gutters.Gutter.{Gutter}
use Rattle.mad_sections.specs.declared.gutters.Gutter.TheVariants as gutter
use Rattle.mad_sections.specs.declared.gutters.Gutter.TheVariants.{Bar, AlertBar, Bullet, Number, Task, Signs, Below}
use Rattle.mad_sections.proofs.Choices.{by_bool}
use Rattle.mad_mark_runs.specs.declared.mark_runs.MarkRun.{MarkRun}
use Rattle.mad_pages.specs.Fronts.{FrontContent, front_of}
use Rattle.mad_pages.specs.PageRows.{RowContent}
use Rattle.mad_page_rows.specs.Faces.{alert_titled, bold_behind, emboldened, titled, has_ascii_boxes, alert_bar, below_char, box_piece, heading_sign, blanks, code_face, first_face, other_face, face, faces, columns_behind, back_columns, backs, level_above, in_box, ruled, line_skin, behind_pieces, page_row_bytes, page_row_pieces, toned_pieces}
use Rattle.mad_page_skin.specs.PlainSkins.{plain_skin}
use Rattle.markdown_layout.specs.RowEnds.{ended, without_end}
use Rattle.markdown_layout.specs.WrittenPages.{dressed_bytes, row_bytes}
use Rattle.markdown_layout.proofs.EndLemmas.{end_off, rows_end}
use Rattle.markdown_page_laws.specs.Marks.{Mark, blank, quote_bar, bar_of, bullet, number, after_number, box, signs, rule, rule_below, border, rule_start, rule_over, rule_between, rule_end, mark_text, AreTextAndMarks, runs_in, bytes_of, text_in}
use Rattle.markdown_page_laws.specs.PlainPages.{plain_rows, texts_of, PlainIsText, HasNoEscape, PlainHasNoEscape, RowsEndInNoBlank}
use Rattle.markdown_page_laws.proofs.MarkLemmas.{row_text, untoned_text}

-- ---- styles that set nothing

nothing_set : IsUnstyled unstyled.object_style
nothing_set = record { foreground = refl; background = refl; underline = refl; attributes = refl }

over_unset : (flag : Bool) (style : CompoundStyle) → IsUnstyled style.object_style → IsUnstyled (overwritten_if flag unstyled style).object_style
over_unset false style h = h
over_unset true style h = record { foreground = h.foreground; background = h.background; underline = h.underline; attributes = ap (λ (n : ℕ). bit_or n 0) h.attributes }

-- an element of a list of the same elements, or else that one
same_or : {A : Type 0} (x : A) (k n : ℕ) → unwrap_or (slice_get (replicate k x) n) x ≡ x
same_or x zero n = refl
same_or x (suc k) zero = refl
same_or x (suc k) (suc n) = same_or x k n

header_unset : (level : ℕ) → IsUnstyled (header_style plain_rows.paragraph plain_rows.headers level).compound_style.object_style
header_unset zero = nothing_set
header_unset (suc n) = subst (λ (line : LineStyle). IsUnstyled line.compound_style.object_style) (sym (same_or unstyled_line 8 n)) nothing_set

line_unset : (kind : CompositeKind) → IsUnstyled (line_style plain_rows kind).compound_style.object_style
line_unset Code = nothing_set
line_unset (Header level) = header_unset level
line_unset _ = nothing_set

compound_unset : (style : LineStyle) (run : Run) → IsUnstyled style.compound_style.object_style → IsUnstyled (compound_style plain_rows style run).object_style
compound_unset style run h =
    let picture : CompoundStyle = overwritten_if run.flags.picture unstyled style.compound_style in
    let link : CompoundStyle = overwritten_if run.flags.link unstyled picture in
    let italic : CompoundStyle = overwritten_if run.flags.italic unstyled link in
    let struck : CompoundStyle = overwritten_if run.flags.strikeout unstyled italic in
    let bold : CompoundStyle = overwritten_if run.flags.bold unstyled struck in
    let sign : CompoundStyle = overwritten style.compound_style unstyled in
    by_bool (λ b. IsUnstyled (if b then unstyled else if run.flags.picture_sign then sign else overwritten_if run.flags.code unstyled bold).object_style) (bytes_eq run.text ellipsis_bytes)
    (λ on. nothing_set)
    (λ off. by_bool (λ b. IsUnstyled (if b then sign else overwritten_if run.flags.code unstyled bold).object_style) run.flags.picture_sign (λ on. over_unset true style.compound_style h)
    (λ text. over_unset run.flags.code bold
    (over_unset run.flags.bold struck (over_unset run.flags.strikeout italic (over_unset run.flags.italic link (over_unset run.flags.link picture (over_unset run.flags.picture style.compound_style h)))))))

item_is : (level : ℕ) → ordered_item_style plain_rows level ≡ unstyled_item
item_is level = same_or unstyled_item 4 (min level 3)

alert_unset : (alert : Alert) → IsUnstyled (char_style (alert_bar plain_rows.page alert)).object_style
alert_unset Note = nothing_set
alert_unset Tip = nothing_set
alert_unset Important = nothing_set
alert_unset Warning = nothing_set
alert_unset Caution = nothing_set

box_unset : (done : Bool) → IsUnstyled (box_piece plain_rows done).style
box_unset true = nothing_set
box_unset false = nothing_set

-- ---- pieces

-- the pieces have no style
abbrev AreBare : List RowPiece → Type 0
AreBare ps = AllByRecursion (λ (p : RowPiece). IsUnstyled p.style) ps

bare_both : (ps qs : List RowPiece) → AreBare ps → AreBare qs → AreBare (ps ++ qs)
bare_both ps qs h k = all_joined (λ (p : RowPiece). IsUnstyled p.style) ps qs h k

if_bare : (b : Bool) (ps qs : List RowPiece) → AreBare ps → AreBare qs → AreBare (if b then ps else qs)
if_bare true ps qs h k = h
if_bare false ps qs h k = k

bare_spaces : (style : CompoundStyle) (count : ℕ) → IsUnstyled style.object_style → AreBare (spaces style count)
bare_spaces style zero h = tt
bare_spaces style (suc count) h = (h, tt)

bare_singles : (style : CompoundStyle) (count : ℕ) → IsUnstyled style.object_style → AreBare (single_spaces style count)
bare_singles style zero h = tt
bare_singles style (suc count) h = (h, bare_singles style count h)

bare_repeat : (c : StyledChar) (count : ℕ) → IsUnstyled (char_style c).object_style → AreBare (char_repeat c count)
bare_repeat c zero h = tt
bare_repeat c (suc count) h = (h, tt)

-- ---- lines, in the skin with rules of any look

-- that skin with other rules
abbrev plain_with : StyledChar → RowSkin
plain_with c = record plain_rows { horizontal_rule = c }

bare_prefix : (c : StyledChar) (kind : CompositeKind) → AreBare (prefix_pieces (plain_with c) kind)
bare_prefix c (ListItem depth) = bare_both (single_spaces unstyled depth) _ (bare_singles unstyled depth nothing_set) (nothing_set, (nothing_set, tt))
bare_prefix c (ListItemFollowUp depth) = bare_singles unstyled (later_indent plain_rows.list_items_indentation_mode (2 + depth)) nothing_set
bare_prefix c (OrderedListItem level index) =
    let index_unset : IsUnstyled (ordered_item_style plain_rows level).index_style.object_style = subst (λ (item : OrderedItemStyle). IsUnstyled item.index_style.object_style) (sym (item_is level)) nothing_set in
    let suffix_unset : IsUnstyled (char_style (ordered_item_style plain_rows level).index_suffix).object_style = subst (λ (item : OrderedItemStyle). IsUnstyled (char_style item.index_suffix).object_style) (sym (item_is level)) nothing_set in
    bare_both (single_spaces unstyled level) _ (bare_singles unstyled level nothing_set) (index_unset, (suffix_unset, (nothing_set, tt)))
bare_prefix c (OrderedListItemFollowUp level index) = bare_singles unstyled (later_indent plain_rows.list_items_indentation_mode (ordered_indent level index)) nothing_set
bare_prefix c Quote = (nothing_set, (nothing_set, tt))
bare_prefix c _ = tt

bare_compounds : (c : StyledChar) (style : LineStyle) (cs : List Compound) → IsUnstyled style.compound_style.object_style → AreBare (map (compound_piece (plain_with c) style) cs)
bare_compounds c style [] h = tt
bare_compounds c style (x ∷ cs) h = (compound_unset style (run_of x) h, bare_compounds c style cs h)

bare_composite : (c : StyledChar) (outer : Option ℕ) (margins : ℕ × ℕ) (filled : Bool) (l : FmtComposite) → AreBare (composite_pieces (plain_with c) outer margins filled l)
bare_composite c outer margins filled l =
    let style : LineStyle = line_style plain_rows l.kind in
    let unset : IsUnstyled style.compound_style.object_style = line_unset l.kind in
    let beside = outer_blanks style.align outer margins l in
    let inner = inner_blanks l in
    let last : List RowPiece = if filled then spaces unstyled beside.1 else [] in
    let right : List RowPiece = spaces style.compound_style inner.1 ++ last in
    let text : List RowPiece = map (compound_piece (plain_with c) style) l.compounds.items ++ right in
    let front : List RowPiece = prefix_pieces (plain_with c) l.kind ++ text in
    bare_both (spaces unstyled beside.0) (spaces style.compound_style inner.0 ++ front) (bare_spaces unstyled beside.0 nothing_set)
    (bare_both (spaces style.compound_style inner.0) front (bare_spaces style.compound_style inner.0 unset)
    (bare_both (prefix_pieces (plain_with c) l.kind) text (bare_prefix c l.kind)
    (bare_both (map (compound_piece (plain_with c) style) l.compounds.items) right (bare_compounds c style l.compounds.items unset)
    (bare_both (spaces style.compound_style inner.1) last (bare_spaces style.compound_style inner.1 unset) (if_bare filled (spaces unstyled beside.1) [] (bare_spaces unstyled beside.1 nothing_set) tt)))))

bare_cells : (c : StyledChar) (cells : List FmtComposite) → AreBare (flat_map (cell_pieces (plain_with c)) cells)
bare_cells c [] = tt
bare_cells c (cell ∷ cells) = (nothing_set, bare_both (composite_pieces (plain_with c) None (cell_margins (plain_with c)) true cell) (flat_map (cell_pieces (plain_with c)) cells) (bare_composite c None (cell_margins (plain_with c)) true cell) (bare_cells c cells))

bare_placed : (c : StyledChar) (outer : Option ℕ) (filled : Bool) (columns : ℕ) (ps : List RowPiece) → AreBare ps → AreBare (placed_pieces (plain_with c) outer filled columns ps)
bare_placed c outer filled columns ps h =
    let left : ℕ = left_of_place plain_rows.table.align columns outer in
    let right : ℕ = right_of_place plain_rows.table.align columns outer in
    let last : List RowPiece = if filled then spaces unstyled right else [] in
    bare_both (spaces unstyled left) (ps ++ last) (bare_spaces unstyled left nothing_set) (bare_both ps last h (if_bare filled (spaces unstyled right) [] (bare_spaces unstyled right nothing_set) tt))

bare_junctions : (chars : RuleChars) (ws : List ℕ) → AreBare (flat_map (junction unstyled chars) ws)
bare_junctions chars [] = tt
bare_junctions chars (w ∷ ws) = (nothing_set, bare_both (horizontals unstyled chars w) (flat_map (junction unstyled chars) ws) (bare_repeat (styled_char unstyled chars.horizontal) w nothing_set) (bare_junctions chars ws))

bare_rule : (chars : RuleChars) (ws : List ℕ) → AreBare (rule_pieces unstyled chars ws)
bare_rule chars [] = (nothing_set, (nothing_set, tt))
bare_rule chars (w ∷ ws) =
    let last : List RowPiece = char_piece (styled_char unstyled chars.right) ∷ [] in (
      nothing_set,
      bare_both (horizontals unstyled chars w) (flat_map (junction unstyled chars) ws ++ last) (bare_repeat (styled_char unstyled chars.horizontal) w nothing_set)
          (bare_both (flat_map (junction unstyled chars) ws) last (bare_junctions chars ws) (nothing_set, tt)),
    )

bare_line : (c : StyledChar) (outer : Option ℕ) (filled : Bool) (line : FmtLine) → IsUnstyled (char_style c).object_style → AreBare (line_pieces (plain_with c) outer filled line)
bare_line c outer filled (Normal l) h = bare_composite c outer (margins_of (plain_with c) outer l) filled l
bare_line c outer filled (TableRow row) h =
    let cells : List RowPiece = flat_map (cell_pieces (plain_with c)) row.cells.items in
    let last : List RowPiece = vertical_piece (plain_with c) ∷ [] in
    bare_placed c outer filled (row_columns (plain_with c) row.cells.items) (cells ++ last) (bare_both cells last (bare_cells c row.cells.items) (nothing_set, tt))
bare_line c outer filled (TableRule across) h =
    let chars : RuleChars = rule_chars plain_rows.table_border_chars across.position in
    bare_placed c outer filled (rule_columns across.widths.items) (rule_pieces unstyled chars across.widths.items) (bare_rule chars across.widths.items)
bare_line c outer filled HorizontalRule h = bare_repeat c (unwrap_or outer 0) h

below_unset : (level : ℕ) → IsUnstyled (char_style (below_char plain_rows.page level)).object_style
below_unset zero = nothing_set
below_unset (suc level) = nothing_set

bare_ruled : (level : Option ℕ) (outer : Option ℕ) (filled : Bool) (line : FmtLine) → AreBare (line_pieces (ruled plain_rows level) outer filled line)
bare_ruled None outer filled line = bare_line plain_rows.horizontal_rule outer filled line nothing_set
bare_ruled (Some level) outer filled line = bare_line (below_char plain_rows.page level) outer filled line (below_unset level)

-- ---- rows

bare_blanks : (count : ℕ) → AreBare (blanks plain_rows count)
bare_blanks count = bare_spaces unstyled count nothing_set

bare_code : AreBare (code_face plain_rows)
bare_code = bare_blanks 2

bare_first : (g : Gutter) → AreBare (first_face plain_rows g)
bare_first Bar = (nothing_set, bare_blanks 1)
bare_first (AlertBar alert) = (alert_unset alert, bare_blanks 1)
bare_first Bullet = (nothing_set, bare_blanks 1)
bare_first (Number n) = (nothing_set, (nothing_set, bare_blanks 1))
bare_first (Task done) = (box_unset done, bare_blanks 1)
bare_first gutter.Code = bare_code
bare_first (Signs level) = bare_both (char_repeat (heading_sign plain_rows level) (level + 1)) (blanks plain_rows 1) (bare_repeat (heading_sign plain_rows level) (level + 1) (header_unset (suc level))) (bare_blanks 1)
bare_first (Below level) = tt

bare_other : (g : Gutter) → AreBare (other_face plain_rows g)
bare_other Bar = (nothing_set, bare_blanks 1)
bare_other (AlertBar alert) = (alert_unset alert, bare_blanks 1)
bare_other gutter.Code = bare_code
bare_other g = bare_blanks (gutter_columns (has_ascii_boxes plain_rows) g)

bare_faces : (first : Bool) (gs : List Gutter) → AreBare (flat_map (face plain_rows first) gs)
bare_faces first [] = tt
bare_faces first (g ∷ gs) = bare_both (face plain_rows first g) (flat_map (face plain_rows first) gs) (if_bare first (first_face plain_rows g) (other_face plain_rows g) (bare_first g) (bare_other g)) (bare_faces first gs)

-- the skin has no tones: a line with marks is as without
bare_toned : (marks : List MarkRun) (n : ℕ) (skin : RowSkin) (outer : Option ℕ) (filled : Bool) (line : FmtLine) → AreBare (line_pieces skin outer filled line) → AreBare (toned_pieces marks [] n skin outer filled line)
bare_toned [] n skin outer filled line h = h
bare_toned (run ∷ runs) n skin outer filled line h = h

-- a style in which nothing is set stays so, where such a one comes over it
unset_twice : overwritten unstyled unstyled ≡ unstyled
unset_twice =
    ap (λ (attributes : Attributes). record unstyled { object_style = record unstyled.object_style { attributes = attributes } })
    (same_bits (united unstyled.object_style.attributes unstyled.object_style.attributes) unstyled.object_style.attributes refl)

-- in heads and titles bold text adds nothing
unbold : (head : Bool) (alert : Option Alert) → (if head then overwritten plain_rows.bold plain_rows.head else titled plain_rows alert) ≡ plain_rows.bold
unbold true alert = unset_twice
unbold false None = refl
unbold false (Some Note) = unset_twice
unbold false (Some Tip) = unset_twice
unbold false (Some Important) = unset_twice
unbold false (Some Warning) = unset_twice
unbold false (Some Caution) = unset_twice

ruled_unbold : (level : Option ℕ) (bold : CompoundStyle) → bold ≡ plain_rows.bold → emboldened (ruled plain_rows level) bold ≡ ruled plain_rows level
ruled_unbold None bold h = ap (emboldened plain_rows) h
ruled_unbold (Some level) bold h = ap (emboldened (ruled plain_rows (Some level))) h

-- but for rules below headings, the skin of each line is that of all
plain_line : (front : FrontContent) → line_skin plain_rows front ≡ ruled plain_rows (level_above front.gutters)
plain_line front = ruled_unbold (level_above front.gutters) (bold_behind plain_rows front) (unbold front.head (alert_titled front))

bare_row : (outer : Option ℕ) (filled : Bool) (row : RowContent) → AreBare (page_row_pieces plain_rows outer filled row)
bare_row outer filled row =
    let count : ℕ = length row.gutters - row.fresh in
    let others : List RowPiece = flat_map (face plain_rows false) (take count row.gutters) in
    let firsts : List RowPiece = flat_map (face plain_rows true) (drop count row.gutters) in
    let own : List RowPiece = behind_pieces plain_rows outer filled row in
    bare_both (faces plain_rows row.gutters row.fresh) (own ++ backs plain_rows row.gutters) (bare_both others firsts (bare_faces false (take count row.gutters)) (bare_faces true (drop count row.gutters)))
    (bare_both own (backs plain_rows row.gutters)
    (bare_toned row.marks row.number (line_skin plain_rows (front_of row)) (columns_behind (has_ascii_boxes plain_rows) outer row.gutters) (filled || in_box plain_rows row.gutters) row.line
    (subst (λ (s : RowSkin). AreBare (line_pieces s (columns_behind (has_ascii_boxes plain_rows) outer row.gutters) (filled || in_box plain_rows row.gutters) row.line)) (sym (plain_line (front_of row)))
    (bare_ruled (level_above row.gutters) (columns_behind (has_ascii_boxes plain_rows) outer row.gutters) (filled || in_box plain_rows row.gutters) row.line)))
    (bare_spaces unstyled (back_columns plain_rows row.gutters) nothing_set))

-- pieces without style are written as their texts
bare_bytes : (ps : List RowPiece) → AreBare ps → pieces_bytes ps ≡ texts_of ps
bare_bytes [] h = refl
bare_bytes (p ∷ ps) h = ap₂ (λ (own more : List ℕ). own ++ more) (unstyled_piece p.style p.text h.0) (bare_bytes ps h.1)

-- so is a row in the skin without styles
pub plain_is_text : PlainIsText
plain_is_text width row =
    let pieces : List RowPiece = page_row_pieces plain_rows width false row in
    ap (λ (bytes : List ℕ). ended (bytes ++ 10 ∷ [])) (bare_bytes pieces (bare_row width false row)) ∙ ap (λ (bytes : List ℕ). bytes ++ 10 ∷ []) (end_off (texts_of pieces) 10 refl)

-- ---- no ESC

none_both : (xs ys : List ℕ) → HasNoEscape xs → HasNoEscape ys → HasNoEscape (xs ++ ys)
none_both xs ys h k = all_joined (λ (byte : ℕ). byte ≢ 27) xs ys h k

none_by : (bytes : List ℕ) → list_all (λ byte. not (byte == 27)) bytes ≡ true → HasNoEscape bytes
none_by [] h = tt
none_by (byte ∷ bytes) h =
    by_bool (λ b. (byte == 27) ≡ b → (not b && list_all (λ byte. not (byte == 27)) bytes) ≡ true → HasNoEscape (byte ∷ bytes)) (byte == 27)
    (λ on is more. absurd (no more))
    (λ off is more. ((λ same. grind (arith, nat_tests, is, same)), none_by bytes more))
    refl h
  where
    no : false ≡ true → ⊥
    no e = cc

none_repeated : (count : ℕ) (bytes : List ℕ) → HasNoEscape bytes → HasNoEscape (repeat count bytes)
none_repeated zero bytes h = tt
none_repeated (suc count) bytes h = none_both bytes (repeat count bytes) h (none_repeated count bytes h)

none_front : (xs ys : List ℕ) → HasNoEscape (xs ++ ys) → HasNoEscape xs
none_front [] ys h = tt
none_front (x ∷ xs) ys h = (h.0, none_front xs ys h.1)

-- nor has a row that loses its end
none_ended : (row : List ℕ) → HasNoEscape row → HasNoEscape (ended row)
none_ended row h =
    let cut = rows_end row in
    none_both (without_end row) (10 ∷ []) (none_front (without_end row) cut.lost (subst HasNoEscape cut.row_is h)) (none_by (10 ∷ []) refl)

none_blank : (count : ℕ) → HasNoEscape (replicate count 32)
none_blank zero = tt
none_blank (suc count) = ((none_by (32 ∷ []) refl).0, none_blank count)

none_glyph : (d : ℕ) → digit_glyph false d ≢ 27
none_glyph d = by_bool (λ b. (if b then 48 + d else 87 + d) ≢ 27) (nat_lt d 10) (λ on same. omega (arith, same)) (λ off same. omega (arith, same))

none_digits : (k n : ℕ) (more : List ℕ) → HasNoEscape more → HasNoEscape (digits_onto k 10 false n more)
none_digits zero n more h = h
none_digits (suc k) n more h =
    by_bool (λ b. HasNoEscape (if b then digit_glyph false (n % 10) ∷ more else digits_onto k 10 false (n / 10) (digit_glyph false (n % 10) ∷ more))) (n / 10 == 0) (λ on. (none_glyph (n % 10), h))
    (λ off. none_digits k (n / 10) (digit_glyph false (n % 10) ∷ more) (none_glyph (n % 10), h))

none_number : (n : ℕ) → HasNoEscape (decimal n)
unfolding digits
none_number n = none_digits 64 n [] tt

none_below : (level : ℕ) → HasNoEscape (encode_utf8 (char_alone (below_char plain_rows.page level)))
unfolding encode_utf8
none_below zero = none_by (encode_utf8 0x2550) refl
none_below (suc level) = none_by (encode_utf8 0x2500) refl

none_alert : (alert : Alert) → HasNoEscape (encode_utf8 (char_alone (alert_bar plain_rows.page alert)))
unfolding encode_utf8
none_alert Note = none_by (encode_utf8 0x258C) refl
none_alert Tip = none_by (encode_utf8 0x258C) refl
none_alert Important = none_by (encode_utf8 0x258C) refl
none_alert Warning = none_by (encode_utf8 0x258C) refl
none_alert Caution = none_by (encode_utf8 0x258C) refl

none_box : (done : Bool) → HasNoEscape (box_piece plain_rows done).text
unfolding encode_utf8
none_box true = none_by (encode_utf8 0x2611) refl
none_box false = none_by (encode_utf8 0x2610) refl

none_start : (position : RelativePosition) → HasNoEscape (encode_utf8 (rule_chars plain_rows.table_border_chars position).left)
unfolding encode_utf8
none_start Top = none_by (encode_utf8 0x256D) refl
none_start Other = none_by (encode_utf8 0x251C) refl
none_start Bottom = none_by (encode_utf8 0x2570) refl

none_over : (position : RelativePosition) → HasNoEscape (encode_utf8 (rule_chars plain_rows.table_border_chars position).horizontal)
unfolding encode_utf8
none_over Top = none_by (encode_utf8 0x2500) refl
none_over Other = none_by (encode_utf8 0x2500) refl
none_over Bottom = none_by (encode_utf8 0x2500) refl

none_between : (position : RelativePosition) → HasNoEscape (encode_utf8 (rule_chars plain_rows.table_border_chars position).between)
unfolding encode_utf8
none_between Top = none_by (encode_utf8 0x252C) refl
none_between Other = none_by (encode_utf8 0x253C) refl
none_between Bottom = none_by (encode_utf8 0x2534) refl

none_end : (position : RelativePosition) → HasNoEscape (encode_utf8 (rule_chars plain_rows.table_border_chars position).right)
unfolding encode_utf8
none_end Top = none_by (encode_utf8 0x256E) refl
none_end Other = none_by (encode_utf8 0x2524) refl
none_end Bottom = none_by (encode_utf8 0x256F) refl

-- no mark of that skin has one
none_in : (mark : Mark) → HasNoEscape (mark_text plain_rows mark)
unfolding encode_utf8
none_in (blank count) = none_blank count
none_in quote_bar = none_by (encode_utf8 0x258C) refl
none_in (bar_of alert) = none_alert alert
none_in bullet = none_by (encode_utf8 0x2022) refl
none_in (number n) = none_number n
none_in (after_number level) = subst (λ (item : OrderedItemStyle). HasNoEscape (encode_utf8 (char_alone item.index_suffix))) (sym (item_is level)) (none_by (encode_utf8 46) refl)
none_in (box done) = none_box done
none_in (signs count) = none_repeated count (encode_utf8 35) (none_by (encode_utf8 35) refl)
none_in (rule count) = none_repeated count (encode_utf8 0x2500) (none_by (encode_utf8 0x2500) refl)
none_in (rule_below level count) = none_repeated count (encode_utf8 (char_alone (below_char plain_rows.page level))) (none_below level)
none_in border = none_by (encode_utf8 0x2502) refl
none_in (rule_start position) = none_start position
none_in (rule_over position count) = none_repeated count (encode_utf8 (rule_chars plain_rows.table_border_chars position).horizontal) (none_over position)
none_in (rule_between position) = none_between position
none_in (rule_end position) = none_end position

none_back : (xs ys : List ℕ) → HasNoEscape (xs ++ ys) → HasNoEscape ys
none_back [] ys h = h
none_back (x ∷ xs) ys h = none_back xs ys h.1

none_runs : (runs : List Run) → AllByRecursion (λ (run : Run). HasNoEscape run.text) runs → HasNoEscape (bytes_of runs)
none_runs [] said = tt
none_runs (run ∷ runs) said = none_both run.text (bytes_of runs) said.0 (none_runs runs said.1)

none_woven : (text : List ℕ) (ps : List RowPiece) → AreTextAndMarks plain_rows text ps → HasNoEscape text → HasNoEscape (texts_of ps)
none_woven text [] none said = tt
none_woven text (p ∷ ps) (inl ((mark, is), more)) said = none_both p.text (texts_of ps) (subst HasNoEscape (sym is) (none_in mark)) (none_woven text ps more said)
none_woven text (p ∷ ps) (inr (rest, same, more)) said =
    let all : HasNoEscape (p.text ++ rest) = subst HasNoEscape same said in
    none_both p.text (texts_of ps) (none_front p.text rest all) (none_woven rest ps more (none_back p.text rest all))

-- a row in that skin is its text and marks
plain_text : (width : Option ℕ) (row : RowContent) → AreTextAndMarks plain_rows (text_in row.line) (page_row_pieces plain_rows width false row)
plain_text width row =
    row_text plain_rows width false row (untoned_text (line_skin plain_rows (front_of row)) (columns_behind (has_ascii_boxes plain_rows) width row.gutters) (false || in_box plain_rows row.gutters) row.marks row.number row.line)

-- so what is written of rows in the skin without styles has none, where their text has none
pub plain_has_no_escape : PlainHasNoEscape
plain_has_no_escape width [] said = tt
plain_has_no_escape width (row ∷ rows) said =
    let pieces : List RowPiece = page_row_pieces plain_rows width false row in
    let own : HasNoEscape (ended (texts_of pieces)) =
    none_ended (texts_of pieces) (none_woven (text_in row.line) pieces (plain_text width row) (none_runs (runs_in row.line) said.0)) in
    none_both (row_bytes plain_rows width row) (dressed_bytes plain_skin width rows) (subst HasNoEscape (sym (plain_is_text width row)) own) (plain_has_no_escape width rows said.1)

-- no row that is written ends in a blank
pub rows_end_in_no_blank : RowsEndInNoBlank
rows_end_in_no_blank skin width row = (without_end (page_row_bytes skin width row), refl, λ front same. (rows_end (page_row_bytes skin width row)).last front 32 same refl)

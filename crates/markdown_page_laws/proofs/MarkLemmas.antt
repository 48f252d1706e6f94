-- Rows are the text of their lines and marks.
use Rattle.std.proofs.Common.{◌≡◌, inl, inr, ℕ, zero, suc, ◌+◌, ◌-◌, Bool, true, false, List, [], ◌∷◌, ◌++◌, map, length, take, drop, Option, Some, None, unwrap_or, if◌then◌else◌, refl, ap, ap₂, sym, ◌∙◌, subst, append_assoc, append-nil}
use Rattle.std.specs.Prelude.{encode_utf8, encode_utf8_all}
use Rattle.std.specs.List.{AllByRecursion, flat_map, repeat}
use Rattle.std.specs.Str.{IsUtf8, chars}
use Rattle.std.proofs.lemmas.List.Concat.{flat_map-append}
use Rattle.std.proofs.lemmas.Str.{encodes-append, encodes-chars}
use Rattle.mad_md.specs.Flagged.{FlaggedChar, Flags, Run, flagged, flagged_of, flagged_text, flags_of, run_of}
use Rattle.mad_md.specs.declared.compound.Compound.{Compound}
use Rattle.mad_measure.proofs.AllLemmas.{all_joined}
use Rattle.mad_term.specs.declared.styles.ContentStyle.{ContentStyle}
use Rattle.mad_style.specs.StyledChars.{char_alone, styled_char}
use Rattle.mad_style.specs.declared.compound_styles.CompoundStyle.{CompoundStyle}
use Rattle.mad_style.specs.declared.kinds.CompositeKind.{CompositeKind}
use Rattle.mad_style.specs.declared.kinds.CompositeKind.TheVariants.{ListItem, ListItemFollowUp, OrderedListItem, OrderedListItemFollowUp, Quote}
use Rattle.mad_style.specs.declared.line_styles.LineStyle.{LineStyle}
use Rattle.mad_style.specs.declared.styled_chars.StyledChar.{StyledChar}
use Rattle.mad_style.specs.OrderedItems.{ordered_indent}
use Rattle.mad_draw.specs.Pieces.{RowPiece, char_piece, char_repeat, spaces, single_spaces}
use Rattle.mad_draw.specs.TableRules.{horizontals, junction, rule_pieces}
use Rattle.mad_format.specs.Indents.{later_indent}
use Rattle.mad_format.specs.FmtLines.{rule_columns}
use Rattle.mad_format.specs.Wraps.{text_of}
use Rattle.mad_format.specs.declared.composite.FmtComposite.{FmtComposite}
use Rattle.mad_format.specs.declared.line.FmtLine.{FmtLine}
use Rattle.mad_format.specs.declared.line.FmtLine.TheVariants.{Normal, TableRow, TableRule, HorizontalRule}
use Rattle.mad_format.specs.declared.table.FmtTableRule.{FmtTableRule}
use Rattle.mad_format.specs.declared.table.RelativePosition.{RelativePosition}
use Rattle.mad_rows.specs.Rows.{cell_margins, prefix_pieces, compound_piece, inner_blanks, outer_blanks, margins_of, composite_pieces, left_of_place, right_of_place, placed_pieces, vertical_piece, cell_pieces, row_columns, rule_chars, table_rule_pieces, line_pieces}
use Rattle.mad_rows.specs.RowStyles.{compound_style, line_style}
use Rattle.mad_rows.specs.declared.row_skin.RowSkin.{RowSkin}
use Rattle.mad_sections.specs.Gutters.{gutter_columns}
use Rattle.mad_sections.specs.TableTexts.{runs_text}
use Rattle.mad_sections.specs.declared.gutters.Gutter.{Gutter}
use Rattle.mad_sections.specs.declared.gutters.Gutter.TheVariants.{Bar, AlertBar, Bullet, Number, Task, Code, Signs, Below}
use Rattle.mad_sections.proofs.Choices.{by_bool}
use Rattle.mad_mark_runs.specs.declared.mark_runs.MarkRun.{MarkRun}
use Rattle.mad_marks.specs.LineMarks.{has_mark}
use Rattle.mad_marks.specs.RowMarks.{counted}
use Rattle.mad_marked_rows.specs.MarkedRows.{marked_compound, marked_compounds}
use Rattle.mad_marked_rows.specs.MarkedTexts.{Letter, LetterPart, goes_on, letters_of, number_next, part_piece, parts_from, parts_of, text_pieces}
use Rattle.mad_marked_rows.specs.Paints.{paint_by}
use Rattle.mad_marked_rows.specs.RowLaws.{AreTexts}
use Rattle.mad_pages.specs.Fronts.{FrontContent, front_of}
use Rattle.mad_pages.specs.PageRows.{RowContent}
use Rattle.mad_page_rows.specs.Faces.{bold_behind, emboldened, has_ascii_boxes, has_boxes, heading_sign, blanks, code_blanks, code_face, first_face, other_face, face, faces, back_columns, backs, level_above, in_box, ruled, line_skin, behind_pieces, page_row_pieces, toned_pieces}
use Rattle.markdown_page_laws.specs.KeptMarkdown.{texts_in}
use Rattle.markdown_page_laws.specs.Marks.{Mark, blank, quote_bar, bar_of, bullet, number, after_number, box, signs, rule, rule_below, border, rule_start, rule_over, rule_between, rule_end, mark_text, IsMark, AreTextAndMarks, runs_of, runs_in, bytes_of, text_in}

-- all pieces are marks
abbrev AreMarks : RowSkin → List RowPiece → Type 0
AreMarks skin ps = AllByRecursion (IsMark skin) ps

-- ---- texts and marks

marks_alone : (skin : RowSkin) (ps : List RowPiece) → AreMarks skin ps → AreTextAndMarks skin [] ps
marks_alone skin [] h = refl
marks_alone skin (p ∷ ps) h = inl (h.0, marks_alone skin ps h.1)

marks_before : (skin : RowSkin) (text : List ℕ) (ps qs : List RowPiece) → AreMarks skin ps → AreTextAndMarks skin text qs → AreTextAndMarks skin text (ps ++ qs)
marks_before skin text [] qs h more = more
marks_before skin text (p ∷ ps) qs h more = inl (h.0, marks_before skin text ps qs h.1 more)

both_texts : (skin : RowSkin) (text other : List ℕ) (ps qs : List RowPiece) → AreTextAndMarks skin text ps → AreTextAndMarks skin other qs → AreTextAndMarks skin (text ++ other) (ps ++ qs)
both_texts skin text other [] qs none more = subst (λ (all : List ℕ). AreTextAndMarks skin (all ++ other) qs) (sym none) more
both_texts skin text other (p ∷ ps) qs (inl h) more = inl (h.0, both_texts skin text other ps qs h.1 more)
both_texts skin text other (p ∷ ps) qs (inr (rest, same, h)) more =
    inr (rest ++ other, ap (λ (all : List ℕ). all ++ other) same ∙ append_assoc p.text rest other, both_texts skin rest other ps qs h more)

marks_after : (skin : RowSkin) (text : List ℕ) (ps qs : List RowPiece) → AreTextAndMarks skin text ps → AreMarks skin qs → AreTextAndMarks skin text (ps ++ qs)
marks_after skin text ps qs h marks = subst (λ (all : List ℕ). AreTextAndMarks skin all (ps ++ qs)) (append-nil text) (both_texts skin text [] ps qs h (marks_alone skin qs marks))

-- what is so in another skin whose marks are marks of this one
pub in_other : (skin other : RowSkin) → ((mark : Mark) → (own : Mark) × (mark_text other mark ≡ mark_text skin own)) → (text : List ℕ) (ps : List RowPiece) → AreTextAndMarks other text ps → AreTextAndMarks skin text ps
in_other skin other same text [] none = none
in_other skin other same text (p ∷ ps) (inl ((mark, is), more)) = inl (((same mark).0, is ∙ (same mark).1), in_other skin other same text ps more)
in_other skin other same text (p ∷ ps) (inr (rest, joins, more)) = inr (rest, joins, in_other skin other same rest ps more)

-- marks alone, too
pub in_other_marks : (skin other : RowSkin) → ((mark : Mark) → (own : Mark) × (mark_text other mark ≡ mark_text skin own)) → (ps : List RowPiece) → AreMarks other ps → AreMarks skin ps
in_other_marks skin other same [] h = tt
in_other_marks skin other same (p ∷ ps) ((mark, is), more) = (((same mark).0, is ∙ (same mark).1), in_other_marks skin other same ps more)

if_marks : (skin : RowSkin) (b : Bool) (ps qs : List RowPiece) → AreMarks skin ps → AreMarks skin qs → AreMarks skin (if b then ps else qs)
if_marks skin true ps qs h k = h
if_marks skin false ps qs h k = k

-- ---- kinds of pieces

blank_marks : (skin : RowSkin) (style : CompoundStyle) (count : ℕ) → AreMarks skin (spaces style count)
blank_marks skin style zero = tt
blank_marks skin style (suc count) = ((blank (suc count), refl), tt)

single_marks : (skin : RowSkin) (style : CompoundStyle) (count : ℕ) → AreMarks skin (single_spaces style count)
single_marks skin style zero = tt
single_marks skin style (suc count) = ((blank 1, refl), single_marks skin style count)

repeated_marks : (skin : RowSkin) (c : StyledChar) (mark : ℕ → Mark) → ((count : ℕ) → repeat count (encode_utf8 (char_alone c)) ≡ mark_text skin (mark count)) → (count : ℕ) → AreMarks skin (char_repeat c count)
repeated_marks skin c mark same zero = tt
repeated_marks skin c mark same (suc count) = ((mark (suc count), same (suc count)), tt)

-- ---- lines

prefix_marks : (skin : RowSkin) (kind : CompositeKind) → AreMarks skin (prefix_pieces skin kind)
prefix_marks skin (ListItem depth) = all_joined (IsMark skin) (single_spaces skin.paragraph.compound_style depth) _ (single_marks skin skin.paragraph.compound_style depth) ((bullet, refl), ((blank 1, refl), tt))
prefix_marks skin (ListItemFollowUp depth) = single_marks skin skin.paragraph.compound_style (later_indent skin.list_items_indentation_mode (2 + depth))
prefix_marks skin (OrderedListItem level index) =
    all_joined (IsMark skin) (single_spaces skin.paragraph.compound_style level) _ (single_marks skin skin.paragraph.compound_style level) ((number index, refl), ((after_number level, refl), ((blank 1, refl), tt)))
prefix_marks skin (OrderedListItemFollowUp level index) = single_marks skin skin.paragraph.compound_style (later_indent skin.list_items_indentation_mode (ordered_indent level index))
prefix_marks skin Quote = ((quote_bar, refl), ((blank 1, refl), tt))
prefix_marks skin _ = tt

compounds_text : (skin : RowSkin) (style : LineStyle) (cs : List Compound) → AreTextAndMarks skin (bytes_of (map run_of cs)) (map (compound_piece skin style) cs)
compounds_text skin style [] = refl
compounds_text skin style (c ∷ cs) = inr (bytes_of (map run_of cs), refl, compounds_text skin style cs)

-- a composite's text stands among its marks
around_text : (skin : RowSkin) (outer : Option ℕ) (margins : ℕ × ℕ) (filled : Bool) (l : FmtComposite) (ps : List RowPiece) (style : LineStyle) (beside inner : ℕ × ℕ) → AreTextAndMarks skin (bytes_of (runs_of l)) ps
    → AreTextAndMarks skin (bytes_of (runs_of l))
    (spaces skin.paragraph.compound_style beside.0
    ++ (spaces style.compound_style inner.0 ++ (prefix_pieces skin l.kind ++ (ps ++ (spaces style.compound_style inner.1 ++ (if filled then spaces skin.paragraph.compound_style beside.1 else []))))))
around_text skin outer margins filled l ps style beside inner h =
    let text : List ℕ = bytes_of (runs_of l) in
    let right : List RowPiece = spaces style.compound_style inner.1 ++ (if filled then spaces skin.paragraph.compound_style beside.1 else []) in
    let marks : AreMarks skin right =
    all_joined (IsMark skin) (spaces style.compound_style inner.1) (if filled then spaces skin.paragraph.compound_style beside.1 else []) (blank_marks skin style.compound_style inner.1)
    (if_marks skin filled (spaces skin.paragraph.compound_style beside.1) [] (blank_marks skin skin.paragraph.compound_style beside.1) tt) in
    marks_before skin text (spaces skin.paragraph.compound_style beside.0) (spaces style.compound_style inner.0 ++ (prefix_pieces skin l.kind ++ (ps ++ right))) (blank_marks skin skin.paragraph.compound_style beside.0)
    (marks_before skin text (spaces style.compound_style inner.0) (prefix_pieces skin l.kind ++ (ps ++ right)) (blank_marks skin style.compound_style inner.0)
    (marks_before skin text (prefix_pieces skin l.kind) (ps ++ right) (prefix_marks skin l.kind)
    (marks_after skin text ps right h marks)))

pub composite_text : (skin : RowSkin) (outer : Option ℕ) (margins : ℕ × ℕ) (filled : Bool) (l : FmtComposite) → AreTextAndMarks skin (bytes_of (runs_of l)) (composite_pieces skin outer margins filled l)
composite_text skin outer margins filled l =
    let style : LineStyle = line_style skin l.kind in
    around_text skin outer margins filled l (map (compound_piece skin style) l.compounds.items) style (outer_blanks style.align outer margins l) (inner_blanks l) (compounds_text skin style l.compounds.items)

cells_text : (skin : RowSkin) (cells : List FmtComposite) → AreTextAndMarks skin (bytes_of (flat_map runs_of cells)) (flat_map (cell_pieces skin) cells)
cells_text skin [] = refl
cells_text skin (cell ∷ cells) =
    subst (λ (text : List ℕ). AreTextAndMarks skin text (flat_map (cell_pieces skin) (cell ∷ cells))) (sym (flat_map-append (λ (run : Run). run.text) (runs_of cell) (flat_map runs_of cells)))
    (inl ((border, refl), both_texts skin (bytes_of (runs_of cell)) (bytes_of (flat_map runs_of cells)) (composite_pieces skin None (cell_margins skin) true cell) (flat_map (cell_pieces skin) cells) (composite_text skin None (cell_margins skin) true cell) (cells_text skin cells)))

placed_text : (skin : RowSkin) (outer : Option ℕ) (filled : Bool) (columns : ℕ) (text : List ℕ) (ps : List RowPiece) → AreTextAndMarks skin text ps → AreTextAndMarks skin text (placed_pieces skin outer filled columns ps)
placed_text skin outer filled columns text ps h =
    let left : ℕ = left_of_place skin.table.align columns outer in
    let right : ℕ = right_of_place skin.table.align columns outer in
    let behind : List RowPiece = if filled then spaces skin.paragraph.compound_style right else [] in
    marks_before skin text (spaces skin.paragraph.compound_style left) (ps ++ behind) (blank_marks skin skin.paragraph.compound_style left)
    (marks_after skin text ps behind h (if_marks skin filled (spaces skin.paragraph.compound_style right) [] (blank_marks skin skin.paragraph.compound_style right) tt))

over_marks : (skin : RowSkin) (style : CompoundStyle) (position : RelativePosition) (w : ℕ) → AreMarks skin (horizontals style (rule_chars skin.table_border_chars position) w)
over_marks skin style position w = repeated_marks skin (styled_char style (rule_chars skin.table_border_chars position).horizontal) (rule_over position) (λ count. refl) w

junction_marks : (skin : RowSkin) (style : CompoundStyle) (position : RelativePosition) (ws : List ℕ) → AreMarks skin (flat_map (junction style (rule_chars skin.table_border_chars position)) ws)
junction_marks skin style position [] = tt
junction_marks skin style position (w ∷ ws) =
    let chars = rule_chars skin.table_border_chars position in (
      (rule_between position, refl),
      all_joined (IsMark skin) (horizontals style chars w) (flat_map (junction style chars) ws) (over_marks skin style position w) (junction_marks skin style position ws),
    )

rule_marks : (skin : RowSkin) (style : CompoundStyle) (position : RelativePosition) (ws : List ℕ) → AreMarks skin (rule_pieces style (rule_chars skin.table_border_chars position) ws)
rule_marks skin style position [] = ((rule_start position, refl), ((rule_end position, refl), tt))
rule_marks skin style position (w ∷ ws) =
    let chars = rule_chars skin.table_border_chars position in
    let last : List RowPiece = char_piece (styled_char style chars.right) ∷ [] in (
      (rule_start position, refl),
      all_joined (IsMark skin) (horizontals style chars w) (flat_map (junction style chars) ws ++ last) (over_marks skin style position w)
          (all_joined (IsMark skin) (flat_map (junction style chars) ws) last (junction_marks skin style position ws) ((rule_end position, refl), tt)),
    )

-- a rule of a table in its place
pub placed_rule : (skin : RowSkin) (outer : Option ℕ) (filled : Bool) (across : FmtTableRule) → AreMarks skin (table_rule_pieces skin outer filled across)
placed_rule skin outer filled across =
    let ps : List RowPiece = rule_pieces skin.table.compound_style (rule_chars skin.table_border_chars across.position) across.widths.items in
    let left : ℕ = left_of_place skin.table.align (rule_columns across.widths.items) outer in
    let right : ℕ = right_of_place skin.table.align (rule_columns across.widths.items) outer in
    let behind : List RowPiece = if filled then spaces skin.paragraph.compound_style right else [] in
    all_joined (IsMark skin) (spaces skin.paragraph.compound_style left) (ps ++ behind) (blank_marks skin skin.paragraph.compound_style left)
    (all_joined (IsMark skin) ps behind (rule_marks skin skin.table.compound_style across.position across.widths.items) (if_marks skin filled (spaces skin.paragraph.compound_style right) [] (blank_marks skin skin.paragraph.compound_style right) tt))

-- a rule across the page
pub whole_rule : (skin : RowSkin) (outer : Option ℕ) → AreMarks skin (char_repeat skin.horizontal_rule (unwrap_or outer 0))
whole_rule skin outer = repeated_marks skin skin.horizontal_rule rule (λ count. refl) (unwrap_or outer 0)

-- a line is its text and marks
line_text : (skin : RowSkin) (outer : Option ℕ) (filled : Bool) (line : FmtLine) → AreTextAndMarks skin (text_in line) (line_pieces skin outer filled line)
line_text skin outer filled (Normal l) = composite_text skin outer (margins_of skin outer l) filled l
line_text skin outer filled (TableRow row) =
    let text : List ℕ = bytes_of (flat_map runs_of row.cells.items) in
    placed_text skin outer filled (row_columns skin row.cells.items) text (flat_map (cell_pieces skin) row.cells.items ++ vertical_piece skin ∷ [])
    (marks_after skin text (flat_map (cell_pieces skin) row.cells.items) (vertical_piece skin ∷ []) (cells_text skin row.cells.items) ((border, refl), tt))
line_text skin outer filled (TableRule across) =
    let ps : List RowPiece = rule_pieces skin.table.compound_style (rule_chars skin.table_border_chars across.position) across.widths.items in
    placed_text skin outer filled (rule_columns across.widths.items) [] ps (marks_alone skin ps (rule_marks skin skin.table.compound_style across.position across.widths.items))
line_text skin outer filled HorizontalRule = marks_alone skin (char_repeat skin.horizontal_rule (unwrap_or outer 0)) (repeated_marks skin skin.horizontal_rule rule (λ count. refl) (unwrap_or outer 0))

-- ---- lines with tones

-- the characters of letters
abbrev pub chars_of : List Letter → List ℕ
chars_of ls = map (λ (l : Letter). l.char) ls

pub letters_say : (runs : List MarkRun) (n : ℕ) (cs : List ℕ) → chars_of (letters_of runs n cs) ≡ cs
letters_say runs n [] = refl
letters_say runs n (c ∷ cs) = ap (λ (more : List ℕ). c ∷ more) (letters_say runs (number_next n c) cs)

pub more_text : (cs : List ℕ) (c : ℕ) (more : List ℕ) → encode_utf8_all cs ++ (encode_utf8 c ++ more) ≡ encode_utf8_all (cs ++ c ∷ []) ++ more
more_text cs c more =
    sym (append_assoc (encode_utf8_all cs) (encode_utf8 c) more) ∙ ap (λ (own : List ℕ). own ++ more) (ap (λ (last : List ℕ). encode_utf8_all cs ++ last) (sym (append-nil (encode_utf8 c))) ∙ sym (encodes-append cs (c ∷ [])))

-- each part is the next stretch of the text
parts_text : (skin : RowSkin) (paint : ℕ → ContentStyle → ContentStyle) (style : ContentStyle) (p : LetterPart) (ls : List Letter)
    → AreTextAndMarks skin (encode_utf8_all p.chars ++ encode_utf8_all (chars_of ls)) (map (part_piece paint style) (parts_from p ls))
parts_text skin paint style p [] = inr ([], refl, refl)
parts_text skin paint style p (l ∷ ls) =
    by_bool (λ b. AreTextAndMarks skin (encode_utf8_all p.chars ++ encode_utf8_all (chars_of (l ∷ ls))) (map (part_piece paint style) (if b then parts_from (record { value = p.value; chars = p.chars ++ l.char ∷ [] }) ls else p ∷ parts_from (record { value = l.value; chars = l.char ∷ [] }) ls)))
    (goes_on p.value l.value l.char)
    (λ on. subst (λ (text : List ℕ). AreTextAndMarks skin text (map (part_piece paint style) (parts_from (record { value = p.value; chars = p.chars ++ l.char ∷ [] }) ls)))
    (sym (more_text p.chars l.char (encode_utf8_all (chars_of ls)))) (parts_text skin paint style (record { value = p.value; chars = p.chars ++ l.char ∷ [] }) ls))
    (λ off. inr (
      encode_utf8_all (chars_of (l ∷ ls)),
      refl,
      subst (λ (own : List ℕ). AreTextAndMarks skin (own ++ encode_utf8_all (chars_of ls)) (map (part_piece paint style) (parts_from (record { value = l.value; chars = l.char ∷ [] }) ls)))
          (append-nil (encode_utf8 l.char)) (parts_text skin paint style (record { value = l.value; chars = l.char ∷ [] }) ls),
    ))

letters_text : (skin : RowSkin) (paint : ℕ → ContentStyle → ContentStyle) (style : ContentStyle) (ls : List Letter) → AreTextAndMarks skin (encode_utf8_all (chars_of ls)) (map (part_piece paint style) (parts_of ls))
letters_text skin paint style [] = refl
letters_text skin paint style (l ∷ ls) =
    subst (λ (own : List ℕ). AreTextAndMarks skin (own ++ encode_utf8_all (chars_of ls)) (map (part_piece paint style) (parts_of (l ∷ ls)))) (append-nil (encode_utf8 l.char)) (parts_text skin paint style (record { value = l.value; chars = l.char ∷ [] }) ls)

marked_text : (skin : RowSkin) (paint : ℕ → ContentStyle → ContentStyle) (runs : List MarkRun) (style : ContentStyle) (n : ℕ) (text : List ℕ) → IsUtf8 text → AreTextAndMarks skin text (text_pieces paint runs style n (chars text))
marked_text skin paint runs style n text utf8 =
    subst (λ (own : List ℕ). AreTextAndMarks skin own (text_pieces paint runs style n (chars text))) (ap encode_utf8_all (letters_say runs n (chars text)) ∙ encodes-chars text utf8)
    (letters_text skin paint style (letters_of runs n (chars text)))

compound_text : (skin : RowSkin) (paint : ℕ → ContentStyle → ContentStyle) (has : Flags → Bool) (runs : List MarkRun) (style : LineStyle) (n : ℕ) (k : Compound) → IsUtf8 k.src.now → AreTextAndMarks skin k.src.now (marked_compound paint has runs skin style n k)
compound_text skin paint has runs style n k utf8 =
    let own : ContentStyle = (compound_style skin style (run_of k)).object_style in
    by_bool (λ b. AreTextAndMarks skin k.src.now (if b then text_pieces paint runs own n (chars k.src.now) else compound_piece skin style k ∷ [])) (has (flags_of k))
    (λ on. marked_text skin paint runs own n k.src.now utf8)
    (λ off. inr ([], sym (append-nil k.src.now), refl))

marked_compounds_text : (skin : RowSkin) (paint : ℕ → ContentStyle → ContentStyle) (has : Flags → Bool) (runs : List MarkRun) (style : LineStyle) (n : ℕ) (ks : List Compound)
    → AllByRecursion (λ k. IsUtf8 k.src.now) ks → AreTextAndMarks skin (bytes_of (map run_of ks)) (marked_compounds paint has runs skin style n ks)
marked_compounds_text skin paint has runs style n [] utf8 = refl
marked_compounds_text skin paint has runs style n (k ∷ ks) utf8 =
    let next : ℕ = n + counted has (flagged_of k) in
    both_texts skin k.src.now (bytes_of (map run_of ks)) (marked_compound paint has runs skin style n k) (marked_compounds paint has runs skin style next ks) (compound_text skin paint has runs style n k utf8.0)
    (marked_compounds_text skin paint has runs style next ks utf8.1)

-- so is a line with tones
toned_text : (skin : RowSkin) (outer : Option ℕ) (filled : Bool) (runs : List MarkRun) (tones : List CompoundStyle) (n : ℕ) (line : FmtLine) → AreTexts line → AreTextAndMarks skin (text_in line) (toned_pieces runs tones n skin outer filled line)
toned_text skin outer filled [] tones n line texts = line_text skin outer filled line
toned_text skin outer filled (run ∷ runs) [] n line texts = line_text skin outer filled line
toned_text skin outer filled (run ∷ runs) (tone ∷ tones) n (Normal l) texts =
    let style : LineStyle = line_style skin l.kind in
    around_text skin outer (margins_of skin outer l) filled l (marked_compounds (paint_by (tone ∷ tones)) (has_mark l.kind) (run ∷ runs) skin style n l.compounds.items) style (outer_blanks style.align outer (margins_of skin outer l) l) (inner_blanks l)
    (marked_compounds_text skin (paint_by (tone ∷ tones)) (has_mark l.kind) (run ∷ runs) style n l.compounds.items texts.0)
toned_text skin outer filled (run ∷ runs) (tone ∷ tones) n (TableRow row) texts = line_text skin outer filled (TableRow row)
toned_text skin outer filled (run ∷ runs) (tone ∷ tones) n (TableRule across) texts = line_text skin outer filled (TableRule across)
toned_text skin outer filled (run ∷ runs) (tone ∷ tones) n HorizontalRule texts = line_text skin outer filled HorizontalRule

-- so is each line in a skin without tones, whatever it says
pub untoned_text : (skin : RowSkin) (outer : Option ℕ) (filled : Bool) (runs : List MarkRun) (n : ℕ) (line : FmtLine) → AreTextAndMarks skin (text_in line) (toned_pieces runs [] n skin outer filled line)
untoned_text skin outer filled [] n line = line_text skin outer filled line
untoned_text skin outer filled (run ∷ runs) n line = line_text skin outer filled line

-- ---- the skin of a row's line

-- a skin whose paragraph looks as code, or this one
abbrev pub boxed : RowSkin → Bool → RowSkin
boxed skin b = if b then record skin { paragraph = skin.code_block } else skin

-- its marks are the same
pub boxed_mark : (skin : RowSkin) (b : Bool) (mark : Mark) → mark_text (boxed skin b) mark ≡ mark_text skin mark
boxed_mark skin false mark = refl
boxed_mark skin true (blank count) = refl
boxed_mark skin true quote_bar = refl
boxed_mark skin true (bar_of alert) = refl
boxed_mark skin true bullet = refl
boxed_mark skin true (number n) = refl
boxed_mark skin true (after_number level) = refl
boxed_mark skin true (box done) = refl
boxed_mark skin true (signs count) = refl
boxed_mark skin true (rule count) = refl
boxed_mark skin true (rule_below level count) = refl
boxed_mark skin true border = refl
boxed_mark skin true (rule_start position) = refl
boxed_mark skin true (rule_over position count) = refl
boxed_mark skin true (rule_between position) = refl
boxed_mark skin true (rule_end position) = refl

-- where rules look as those below headings, each mark is one of the skin's
ruled_mark : (skin : RowSkin) (level : Option ℕ) (mark : Mark) → (own : Mark) × (mark_text (ruled skin level) mark ≡ mark_text skin own)
ruled_mark skin None mark = (mark, refl)
ruled_mark skin (Some level) (blank count) = (blank count, refl)
ruled_mark skin (Some level) quote_bar = (quote_bar, refl)
ruled_mark skin (Some level) (bar_of alert) = (bar_of alert, refl)
ruled_mark skin (Some level) bullet = (bullet, refl)
ruled_mark skin (Some level) (number n) = (number n, refl)
ruled_mark skin (Some above) (after_number level) = (after_number level, refl)
ruled_mark skin (Some level) (box done) = (box done, refl)
ruled_mark skin (Some level) (signs count) = (signs count, refl)
ruled_mark skin (Some level) (rule count) = (rule_below level count, refl)
ruled_mark skin (Some above) (rule_below level count) = (rule_below level count, refl)
ruled_mark skin (Some level) border = (border, refl)
ruled_mark skin (Some level) (rule_start position) = (rule_start position, refl)
ruled_mark skin (Some level) (rule_over position count) = (rule_over position count, refl)
ruled_mark skin (Some level) (rule_between position) = (rule_between position, refl)
ruled_mark skin (Some level) (rule_end position) = (rule_end position, refl)

-- where bold text adds something else, marks are the same
pub bold_mark : (skin : RowSkin) (bold : CompoundStyle) (mark : Mark) → mark_text (emboldened skin bold) mark ≡ mark_text skin mark
bold_mark skin bold (blank count) = refl
bold_mark skin bold quote_bar = refl
bold_mark skin bold (bar_of alert) = refl
bold_mark skin bold bullet = refl
bold_mark skin bold (number n) = refl
bold_mark skin bold (after_number level) = refl
bold_mark skin bold (box done) = refl
bold_mark skin bold (signs count) = refl
bold_mark skin bold (rule count) = refl
bold_mark skin bold (rule_below level count) = refl
bold_mark skin bold border = refl
bold_mark skin bold (rule_start position) = refl
bold_mark skin bold (rule_over position count) = refl
bold_mark skin bold (rule_between position) = refl
bold_mark skin bold (rule_end position) = refl

-- so is each mark of the skin of a row's line
pub line_mark : (skin : RowSkin) (front : FrontContent) (mark : Mark) → (own : Mark) × (mark_text (line_skin skin front) mark ≡ mark_text skin own)
line_mark skin front mark =
    let own = ruled_mark (boxed skin (in_box skin front.gutters)) (level_above front.gutters) mark in
    (own.0, bold_mark (ruled (boxed skin (in_box skin front.gutters)) (level_above front.gutters)) (bold_behind skin front) mark ∙ own.1 ∙ boxed_mark skin (in_box skin front.gutters) own.0)

-- ---- gutters

code_marks : (skin : RowSkin) → AreMarks skin (code_face skin)
code_marks skin = if_marks skin (has_boxes skin) (code_blanks skin 1) (blanks skin 2) (blank_marks skin skin.code_block.compound_style 1) (blank_marks skin skin.paragraph.compound_style 2)

one_blank : (skin : RowSkin) → AreMarks skin (blanks skin 1)
one_blank skin = blank_marks skin skin.paragraph.compound_style 1

first_marks : (skin : RowSkin) (g : Gutter) → AreMarks skin (first_face skin g)
first_marks skin Bar = ((quote_bar, refl), one_blank skin)
first_marks skin (AlertBar alert) = ((bar_of alert, refl), one_blank skin)
first_marks skin Bullet = ((bullet, refl), one_blank skin)
first_marks skin (Number n) = ((number n, refl), ((after_number 0, refl), one_blank skin))
first_marks skin (Task done) = ((box done, refl), one_blank skin)
first_marks skin Code = code_marks skin
first_marks skin (Signs level) =
    all_joined (IsMark skin) (char_repeat (heading_sign skin level) (level + 1)) (blanks skin 1) (repeated_marks skin (heading_sign skin level) signs (λ count. refl) (level + 1)) (one_blank skin)
first_marks skin (Below level) = tt

other_marks : (skin : RowSkin) (g : Gutter) → AreMarks skin (other_face skin g)
other_marks skin Bar = ((quote_bar, refl), one_blank skin)
other_marks skin (AlertBar alert) = ((bar_of alert, refl), one_blank skin)
other_marks skin Code = code_marks skin
other_marks skin g = blank_marks skin skin.paragraph.compound_style (gutter_columns (has_ascii_boxes skin) g)

faces_marks : (skin : RowSkin) (first : Bool) (gs : List Gutter) → AreMarks skin (flat_map (face skin first) gs)
faces_marks skin first [] = tt
faces_marks skin first (g ∷ gs) =
    all_joined (IsMark skin) (face skin first g) (flat_map (face skin first) gs) (if_marks skin first (first_face skin g) (other_face skin g) (first_marks skin g) (other_marks skin g)) (faces_marks skin first gs)

-- ---- rows

runs_say : (cs : List Compound) → runs_text (map run_of cs) ≡ flagged_text cs
runs_say [] = refl
runs_say (c ∷ cs) = ap (λ (text : List FlaggedChar). flagged (run_of c).flags (chars c.src.now) ++ text) (runs_say cs)

cells_say : (cells : List FmtComposite) → runs_text (flat_map runs_of cells) ≡ flat_map (λ text. text) (map text_of cells)
cells_say [] = refl
cells_say (cell ∷ cells) =
    flat_map-append (λ (run : Run). flagged run.flags (chars run.text)) (runs_of cell) (flat_map runs_of cells)
    ∙ ap₂ (λ (text more : List FlaggedChar). text ++ more) (runs_say cell.compounds.items) (cells_say cells)

pub line_says : (line : FmtLine) → runs_text (runs_in line) ≡ flat_map (λ text. text) (texts_in line)
line_says (Normal l) = runs_say l.compounds.items ∙ sym (append-nil (text_of l))
line_says (TableRow row) = cells_say row.cells.items
line_says (TableRule across) = refl
line_says HorizontalRule = refl

-- where a row's line is its text and marks, the row is
pub row_text : (skin : RowSkin) (outer : Option ℕ) (filled : Bool) (row : RowContent) → AreTextAndMarks (line_skin skin (front_of row)) (text_in row.line) (behind_pieces skin outer filled row) → AreTextAndMarks skin (text_in row.line) (page_row_pieces skin outer filled row)
row_text skin outer filled row h =
    let count : ℕ = length row.gutters - row.fresh in
    let text : List ℕ = text_in row.line in
    let others : List RowPiece = flat_map (face skin false) (take count row.gutters) in
    let firsts : List RowPiece = flat_map (face skin true) (drop count row.gutters) in
    let own : AreTextAndMarks skin text (behind_pieces skin outer filled row) = in_other skin (line_skin skin (front_of row)) (line_mark skin (front_of row)) text (behind_pieces skin outer filled row) h in
    marks_before skin text (faces skin row.gutters row.fresh) (behind_pieces skin outer filled row ++ backs skin row.gutters) (all_joined (IsMark skin) others firsts (faces_marks skin false (take count row.gutters)) (faces_marks skin true (drop count row.gutters)))
    (marks_after skin text (behind_pieces skin outer filled row) (backs skin row.gutters) own (blank_marks skin skin.code_block.compound_style (back_columns skin row.gutters)))

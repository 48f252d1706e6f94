-- Rows are the texts of their lines between marks, and no mark is within a text.
use Rattle.std.proofs.Common.{◌≡◌, ℕ, zero, suc, ◌+◌, ◌-◌, ◌||◌, Bool, true, false, List, [], ◌∷◌, ◌++◌, map, length, take, drop, Option, Some, None, if◌then◌else◌, refl, ap, sym, ◌∙◌, append_assoc, append-nil}
use Rattle.std.specs.Prelude.{encode_utf8, encode_utf8_all}
use Rattle.std.specs.List.{AllByRecursion, flat_map}
use Rattle.std.specs.Str.{IsUtf8, chars}
use Rattle.std.proofs.lemmas.List.Concat.{flat_map-append}
use Rattle.std.proofs.lemmas.Str.{encodes-chars}
use Rattle.mad_md.specs.Flagged.{Flags, flagged_of, flags_of, run_of}
use Rattle.mad_md.specs.declared.compound.Compound.{Compound}
use Rattle.mad_measure.proofs.AllLemmas.{all_joined}
use Rattle.mad_term.specs.declared.styles.ContentStyle.{ContentStyle}
use Rattle.mad_style.specs.declared.compound_styles.CompoundStyle.{CompoundStyle}
use Rattle.mad_style.specs.declared.kinds.CompositeKind.{CompositeKind}
use Rattle.mad_style.specs.declared.kinds.CompositeKind.TheVariants.{ListItem, ListItemFollowUp, OrderedListItem, OrderedListItemFollowUp, Quote}
use Rattle.mad_style.specs.declared.line_styles.LineStyle.{LineStyle}
use Rattle.mad_style.specs.OrderedItems.{ordered_indent}
use Rattle.mad_draw.specs.Pieces.{RowPiece, char_repeat, spaces, single_spaces}
use Rattle.mad_format.specs.Indents.{later_indent}
use Rattle.mad_format.specs.declared.composite.FmtComposite.{FmtComposite}
use Rattle.mad_format.specs.declared.line.FmtLine.{FmtLine}
use Rattle.mad_format.specs.declared.line.FmtLine.TheVariants.{Normal, TableRow, TableRule, HorizontalRule}
use Rattle.mad_rows.specs.Rows.{cell_margins, prefix_pieces, compound_piece, inner_blanks, outer_blanks, margins_of, composite_pieces, left_of_place, right_of_place, placed_pieces, vertical_piece, cell_pieces, row_columns, line_pieces}
use Rattle.mad_rows.specs.RowStyles.{compound_style, line_style, tone_styles}
use Rattle.mad_rows.specs.declared.row_skin.RowSkin.{RowSkin}
use Rattle.mad_sections.specs.Gutters.{gutter_columns}
use Rattle.mad_sections.specs.declared.gutters.Gutter.{Gutter}
use Rattle.mad_sections.specs.declared.gutters.Gutter.TheVariants.{Bar, AlertBar, Bullet, Number, Task, Code, Signs, Below}
use Rattle.mad_sections.proofs.Choices.{by_bool}
use Rattle.mad_mark_runs.specs.declared.mark_runs.MarkRun.{MarkRun}
use Rattle.mad_marks.specs.LineMarks.{has_mark}
use Rattle.mad_marks.specs.RowMarks.{counted}
use Rattle.mad_marked_rows.specs.MarkedRows.{marked_compound, marked_compounds}
use Rattle.mad_marked_rows.specs.MarkedTexts.{Letter, LetterPart, goes_on, letters_of, part_piece, parts_from, parts_of, text_pieces}
use Rattle.mad_marked_rows.specs.Paints.{paint_by}
use Rattle.mad_marked_rows.specs.RowLaws.{AreTexts}
use Rattle.mad_pages.specs.Fronts.{FrontContent, front_of}
use Rattle.mad_page_rows.specs.Faces.{bold_behind, emboldened, has_ascii_boxes, has_boxes, heading_sign, blanks, code_blanks, code_face, first_face, other_face, face, faces, columns_behind, back_columns, backs, level_above, in_box, ruled, line_skin, behind_pieces, toned_pieces}
use Rattle.markdown_page_laws.specs.Marks.{Mark, blank, quote_bar, bar_of, bullet, number, after_number, box, signs, rule, rule_below, border, rule_start, rule_over, rule_between, rule_end, mark_text, is_in_front, IsInFront, IsBlank, IsMark, IsTextBetween, AreCells, AreCellsBehind, ArePiecesOf, runs_of, bytes_of, OthersAreMarks}
use Rattle.markdown_page_laws.proofs.MarkLemmas.{bold_mark, boxed, boxed_mark, chars_of, in_other_marks, letters_say, line_mark, line_says, more_text, placed_rule, whole_rule}

-- pieces of marks that may be in front of a text
abbrev AreInFront : RowSkin → List RowPiece → Type 0
AreInFront skin ps = AllByRecursion (IsInFront skin) ps

abbrev AreBlank : List RowPiece → Type 0
AreBlank ps = AllByRecursion IsBlank ps

-- what pieces say
abbrev said_by : List RowPiece → List ℕ
said_by ps = flat_map (λ (p : RowPiece). p.text) ps

-- ---- blanks and marks in front

spaces_blank : (style : CompoundStyle) (count : ℕ) → AreBlank (spaces style count)
spaces_blank style zero = tt
spaces_blank style (suc count) = ((suc count, refl), tt)

in_front_of : (skin : RowSkin) (ps : List RowPiece) → AreBlank ps → AreInFront skin ps
in_front_of skin [] h = tt
in_front_of skin (p ∷ ps) h = ((blank h.0.0, refl, h.0.1), in_front_of skin ps h.1)

spaces_front : (skin : RowSkin) (style : CompoundStyle) (count : ℕ) → AreInFront skin (spaces style count)
spaces_front skin style count = in_front_of skin (spaces style count) (spaces_blank style count)

single_front : (skin : RowSkin) (style : CompoundStyle) (count : ℕ) → AreInFront skin (single_spaces style count)
single_front skin style zero = tt
single_front skin style (suc count) = ((blank 1, refl, refl), single_front skin style count)

if_blank : (t : Bool) (ps qs : List RowPiece) → AreBlank ps → AreBlank qs → AreBlank (if t then ps else qs)
if_blank true ps qs h k = h
if_blank false ps qs h k = k

if_front : (skin : RowSkin) (t : Bool) (ps qs : List RowPiece) → AreInFront skin ps → AreInFront skin qs → AreInFront skin (if t then ps else qs)
if_front skin true ps qs h k = h
if_front skin false ps qs h k = k

prefix_front : (skin : RowSkin) (kind : CompositeKind) → AreInFront skin (prefix_pieces skin kind)
prefix_front skin (ListItem depth) = all_joined (IsInFront skin) (single_spaces skin.paragraph.compound_style depth) _ (single_front skin skin.paragraph.compound_style depth) ((bullet, refl, refl), ((blank 1, refl, refl), tt))
prefix_front skin (ListItemFollowUp depth) = single_front skin skin.paragraph.compound_style (later_indent skin.list_items_indentation_mode (2 + depth))
prefix_front skin (OrderedListItem level index) =
    all_joined (IsInFront skin) (single_spaces skin.paragraph.compound_style level) _ (single_front skin skin.paragraph.compound_style level) ((number index, refl, refl), ((after_number level, refl, refl), ((blank 1, refl, refl), tt)))
prefix_front skin (OrderedListItemFollowUp level index) = single_front skin skin.paragraph.compound_style (later_indent skin.list_items_indentation_mode (ordered_indent level index))
prefix_front skin Quote = ((quote_bar, refl, refl), ((blank 1, refl, refl), tt))
prefix_front skin _ = tt

-- ---- texts

compounds_said : (skin : RowSkin) (style : LineStyle) (cs : List Compound) → said_by (map (compound_piece skin style) cs) ≡ bytes_of (map run_of cs)
compounds_said skin style [] = refl
compounds_said skin style (c ∷ cs) = ap (λ (more : List ℕ). c.src.now ++ more) (compounds_said skin style cs)

parts_said : (paint : ℕ → ContentStyle → ContentStyle) (style : ContentStyle) (p : LetterPart) (ls : List Letter) → said_by (map (part_piece paint style) (parts_from p ls)) ≡ encode_utf8_all p.chars ++ encode_utf8_all (chars_of ls)
parts_said paint style p [] = refl
parts_said paint style p (l ∷ ls) =
    by_bool (λ b. said_by (map (part_piece paint style) (if b then parts_from (record { value = p.value; chars = p.chars ++ l.char ∷ [] }) ls else p ∷ parts_from (record { value = l.value; chars = l.char ∷ [] }) ls)) ≡ encode_utf8_all p.chars ++ encode_utf8_all (chars_of (l ∷ ls)))
    (goes_on p.value l.value l.char)
    (λ on. parts_said paint style (record { value = p.value; chars = p.chars ++ l.char ∷ [] }) ls ∙ sym (more_text p.chars l.char (encode_utf8_all (chars_of ls))))
    (λ off. ap (λ (more : List ℕ). encode_utf8_all p.chars ++ more) (parts_said paint style (record { value = l.value; chars = l.char ∷ [] }) ls ∙ ap (λ (own : List ℕ). own ++ encode_utf8_all (chars_of ls)) (append-nil (encode_utf8 l.char))))

letters_said : (paint : ℕ → ContentStyle → ContentStyle) (style : ContentStyle) (ls : List Letter) → said_by (map (part_piece paint style) (parts_of ls)) ≡ encode_utf8_all (chars_of ls)
letters_said paint style [] = refl
letters_said paint style (l ∷ ls) = parts_said paint style (record { value = l.value; chars = l.char ∷ [] }) ls ∙ ap (λ (own : List ℕ). own ++ encode_utf8_all (chars_of ls)) (append-nil (encode_utf8 l.char))

marked_said : (paint : ℕ → ContentStyle → ContentStyle) (runs : List MarkRun) (style : ContentStyle) (n : ℕ) (text : List ℕ) → IsUtf8 text → said_by (text_pieces paint runs style n (chars text)) ≡ text
marked_said paint runs style n text utf8 = letters_said paint style (letters_of runs n (chars text)) ∙ ap encode_utf8_all (letters_say runs n (chars text)) ∙ encodes-chars text utf8

compound_said : (skin : RowSkin) (paint : ℕ → ContentStyle → ContentStyle) (has : Flags → Bool) (runs : List MarkRun) (style : LineStyle) (n : ℕ) (k : Compound) → IsUtf8 k.src.now → said_by (marked_compound paint has runs skin style n k) ≡ k.src.now
compound_said skin paint has runs style n k utf8 =
    let own : ContentStyle = (compound_style skin style (run_of k)).object_style in
    by_bool (λ b. said_by (if b then text_pieces paint runs own n (chars k.src.now) else compound_piece skin style k ∷ []) ≡ k.src.now) (has (flags_of k))
    (λ on. marked_said paint runs own n k.src.now utf8)
    (λ off. append-nil k.src.now)

marked_compounds_said : (skin : RowSkin) (paint : ℕ → ContentStyle → ContentStyle) (has : Flags → Bool) (runs : List MarkRun) (style : LineStyle) (n : ℕ) (ks : List Compound)
    → AllByRecursion (λ k. IsUtf8 k.src.now) ks → said_by (marked_compounds paint has runs skin style n ks) ≡ bytes_of (map run_of ks)
marked_compounds_said skin paint has runs style n [] utf8 = refl
marked_compounds_said skin paint has runs style n (k ∷ ks) utf8 =
    let next : ℕ = n + counted has (flagged_of k) in
    flat_map-append (λ (p : RowPiece). p.text) (marked_compound paint has runs skin style n k) (marked_compounds paint has runs skin style next ks)
    ∙ ap (λ (own : List ℕ). own ++ said_by (marked_compounds paint has runs skin style next ks)) (compound_said skin paint has runs style n k utf8.0)
    ∙ ap (λ (more : List ℕ). k.src.now ++ more) (marked_compounds_said skin paint has runs style next ks utf8.1)

-- ---- lines

regrouped : (a b c d e f : List RowPiece) → a ++ (b ++ (c ++ (d ++ (e ++ f)))) ≡ (a ++ (b ++ c)) ++ (d ++ (e ++ f))
regrouped a b c d e f = ap (λ (ps : List RowPiece). a ++ ps) (sym (append_assoc b c (d ++ (e ++ f)))) ∙ sym (append_assoc a (b ++ c) (d ++ (e ++ f)))

-- a composite's text stands between its marks
around : (skin : RowSkin) (filled : Bool) (l : FmtComposite) (ps : List RowPiece) (style : LineStyle) (beside inner : ℕ × ℕ) → said_by ps ≡ bytes_of (runs_of l)
    → IsTextBetween skin (bytes_of (runs_of l))
    (spaces skin.paragraph.compound_style beside.0
    ++ (spaces style.compound_style inner.0 ++ (prefix_pieces skin l.kind ++ (ps ++ (spaces style.compound_style inner.1 ++ (if filled then spaces skin.paragraph.compound_style beside.1 else []))))))
around skin filled l ps style beside inner h =
    let outer : List RowPiece = spaces skin.paragraph.compound_style beside.0 in
    let own : List RowPiece = spaces style.compound_style inner.0 in
    let prefix : List RowPiece = prefix_pieces skin l.kind in
    let behind : List RowPiece = spaces style.compound_style inner.1 in
    let last : List RowPiece = if filled then spaces skin.paragraph.compound_style beside.1 else [] in
    record {
      front = outer ++ (own ++ prefix);
      said = ps;
      back = behind ++ last;
      whole = regrouped outer own prefix ps behind last;
      marks = all_joined (IsInFront skin) outer (own ++ prefix) (spaces_front skin skin.paragraph.compound_style beside.0) (all_joined (IsInFront skin) own prefix (spaces_front skin style.compound_style inner.0) (prefix_front skin l.kind));
      says = h;
      blanks = all_joined IsBlank behind last (spaces_blank style.compound_style inner.1) (if_blank filled (spaces skin.paragraph.compound_style beside.1) [] (spaces_blank skin.paragraph.compound_style beside.1) tt);
    }

composite_between : (skin : RowSkin) (outer : Option ℕ) (margins : ℕ × ℕ) (filled : Bool) (l : FmtComposite) → IsTextBetween skin (bytes_of (runs_of l)) (composite_pieces skin outer margins filled l)
composite_between skin outer margins filled l =
    let style : LineStyle = line_style skin l.kind in
    around skin filled l (map (compound_piece skin style) l.compounds.items) style (outer_blanks style.align outer margins l) (inner_blanks l) (compounds_said skin style l.compounds.items)

-- the texts of cells
abbrev texts_of : List FmtComposite → List (List ℕ)
texts_of cells = map (λ (cell : FmtComposite). bytes_of (runs_of cell)) cells

cells_between : (skin : RowSkin) (cells : List FmtComposite) (back : List RowPiece) → AreBlank back → AreCells skin (texts_of cells) (flat_map (cell_pieces skin) cells ++ (vertical_piece skin ∷ back))
cells_between skin [] back h = (vertical_piece skin, back, refl, refl, h)
cells_between skin (cell ∷ cells) back h = (
  vertical_piece skin,
  composite_pieces skin None (cell_margins skin) true cell,
  flat_map (cell_pieces skin) cells ++ (vertical_piece skin ∷ back),
  append_assoc (cell_pieces skin cell) (flat_map (cell_pieces skin) cells) (vertical_piece skin ∷ back),
  refl,
  composite_between skin None (cell_margins skin) true cell,
  cells_between skin cells back h,
)

row_between : (skin : RowSkin) (outer : Option ℕ) (filled : Bool) (cells : List FmtComposite) → AreCellsBehind skin (texts_of cells) (placed_pieces skin outer filled (row_columns skin cells) (flat_map (cell_pieces skin) cells ++ vertical_piece skin ∷ []))
row_between skin outer filled cells =
    let columns : ℕ = row_columns skin cells in
    let left : List RowPiece = spaces skin.paragraph.compound_style (left_of_place skin.table.align columns outer) in
    let right : List RowPiece = spaces skin.paragraph.compound_style (right_of_place skin.table.align columns outer) in
    let back : List RowPiece = if filled then right else [] in
    record {
      front = left;
      cells = flat_map (cell_pieces skin) cells ++ (vertical_piece skin ∷ back);
      whole = ap (λ (ps : List RowPiece). left ++ ps) (append_assoc (flat_map (cell_pieces skin) cells) (vertical_piece skin ∷ []) back);
      marks = spaces_front skin skin.paragraph.compound_style (left_of_place skin.table.align columns outer);
      are = cells_between skin cells back (if_blank filled right [] (spaces_blank skin.paragraph.compound_style (right_of_place skin.table.align columns outer)) tt);
    }

line_between : (skin : RowSkin) (outer : Option ℕ) (filled : Bool) (line : FmtLine) → ArePiecesOf skin line (line_pieces skin outer filled line)
line_between skin outer filled (Normal l) = composite_between skin outer (margins_of skin outer l) filled l
line_between skin outer filled (TableRow row) = row_between skin outer filled row.cells.items
line_between skin outer filled (TableRule across) = placed_rule skin outer filled across
line_between skin outer filled HorizontalRule = whole_rule skin outer

-- so is a line with tones
toned_between : (skin : RowSkin) (outer : Option ℕ) (filled : Bool) (runs : List MarkRun) (tones : List CompoundStyle) (n : ℕ) (line : FmtLine) → AreTexts line → ArePiecesOf skin line (toned_pieces runs tones n skin outer filled line)
toned_between skin outer filled [] tones n line texts = line_between skin outer filled line
toned_between skin outer filled (run ∷ runs) [] n line texts = line_between skin outer filled line
toned_between skin outer filled (run ∷ runs) (tone ∷ tones) n (Normal l) texts =
    let style : LineStyle = line_style skin l.kind in
    around skin filled l (marked_compounds (paint_by (tone ∷ tones)) (has_mark l.kind) (run ∷ runs) skin style n l.compounds.items) style (outer_blanks style.align outer (margins_of skin outer l) l) (inner_blanks l)
    (marked_compounds_said skin (paint_by (tone ∷ tones)) (has_mark l.kind) (run ∷ runs) style n l.compounds.items texts.0)
toned_between skin outer filled (run ∷ runs) (tone ∷ tones) n (TableRow row) texts = line_between skin outer filled (TableRow row)
toned_between skin outer filled (run ∷ runs) (tone ∷ tones) n (TableRule across) texts = line_between skin outer filled (TableRule across)
toned_between skin outer filled (run ∷ runs) (tone ∷ tones) n HorizontalRule texts = line_between skin outer filled HorizontalRule

-- ---- the skin of a row's line

-- where rules look as those below headings, marks in front of texts are the same
ruled_front : (skin : RowSkin) (level : Option ℕ) (mark : Mark) → is_in_front mark ≡ true → mark_text (ruled skin level) mark ≡ mark_text skin mark
ruled_front skin None mark h = refl
ruled_front skin (Some level) (blank count) h = refl
ruled_front skin (Some level) quote_bar h = refl
ruled_front skin (Some level) (bar_of alert) h = refl
ruled_front skin (Some level) bullet h = refl
ruled_front skin (Some level) (number n) h = refl
ruled_front skin (Some above) (after_number level) h = refl
ruled_front skin (Some level) (box done) h = refl
ruled_front skin (Some level) (signs count) h = refl
ruled_front skin (Some level) (rule count) h = let no : false ≡ true = h in absurd (cc)
ruled_front skin (Some above) (rule_below level count) h = let no : false ≡ true = h in absurd (cc)
ruled_front skin (Some level) border h = refl
ruled_front skin (Some level) (rule_start position) h = refl
ruled_front skin (Some level) (rule_over position count) h = refl
ruled_front skin (Some level) (rule_between position) h = refl
ruled_front skin (Some level) (rule_end position) h = refl

line_front : (skin : RowSkin) (front : FrontContent) (mark : Mark) → is_in_front mark ≡ true → mark_text (line_skin skin front) mark ≡ mark_text skin mark
line_front skin front mark h =
    bold_mark (ruled (boxed skin (in_box skin front.gutters)) (level_above front.gutters)) (bold_behind skin front) mark ∙ ruled_front (boxed skin (in_box skin front.gutters)) (level_above front.gutters) mark h
    ∙ boxed_mark skin (in_box skin front.gutters) mark

same_border : (skin : RowSkin) (b : Bool) (level : Option ℕ) (bold : CompoundStyle) → mark_text (emboldened (ruled (boxed skin b) level) bold) border ≡ mark_text skin border
same_border skin true None bold = refl
same_border skin true (Some level) bold = refl
same_border skin false None bold = refl
same_border skin false (Some level) bold = refl

line_border : (skin : RowSkin) (front : FrontContent) → mark_text (line_skin skin front) border ≡ mark_text skin border
line_border skin front = same_border skin (in_box skin front.gutters) (level_above front.gutters) (bold_behind skin front)

front_marks : (skin : RowSkin) (front : FrontContent) (ps : List RowPiece) → AreInFront (line_skin skin front) ps → AreInFront skin ps
front_marks skin front [] h = tt
front_marks skin front (p ∷ ps) h = ((h.0.0, h.0.1, h.0.2 ∙ line_front skin front h.0.0 h.0.1), front_marks skin front ps h.1)

text_in_skin : (skin : RowSkin) (front : FrontContent) (text : List ℕ) (ps : List RowPiece) → IsTextBetween (line_skin skin front) text ps → IsTextBetween skin text ps
text_in_skin skin front text ps h = record { front = h.front; said = h.said; back = h.back; whole = h.whole; marks = front_marks skin front h.front h.marks; says = h.says; blanks = h.blanks }

cells_in_skin : (skin : RowSkin) (front : FrontContent) (texts : List (List ℕ)) (ps : List RowPiece) → AreCells (line_skin skin front) texts ps → AreCells skin texts ps
cells_in_skin skin front [] ps (last, back, joins, is, blanks) = (last, back, joins, is ∙ line_border skin front, blanks)
cells_in_skin skin front (text ∷ texts) ps (left, own, more, joins, is, here, there) =
    (left, own, more, joins, is ∙ line_border skin front, text_in_skin skin front text own here, cells_in_skin skin front texts more there)

pieces_in_skin : (skin : RowSkin) (front : FrontContent) (line : FmtLine) (ps : List RowPiece) → ArePiecesOf (line_skin skin front) line ps → ArePiecesOf skin line ps
pieces_in_skin skin front (Normal l) ps h = text_in_skin skin front (bytes_of (runs_of l)) ps h
pieces_in_skin skin front (TableRow row) ps h =
    record { front = h.front; cells = h.cells; whole = h.whole; marks = front_marks skin front h.front h.marks; are = cells_in_skin skin front (texts_of row.cells.items) h.cells h.are }
pieces_in_skin skin front (TableRule across) ps h = in_other_marks skin (line_skin skin front) (line_mark skin front) ps h
pieces_in_skin skin front HorizontalRule ps h = in_other_marks skin (line_skin skin front) (line_mark skin front) ps h

-- ---- gutters

code_front : (skin : RowSkin) → AreInFront skin (code_face skin)
code_front skin = if_front skin (has_boxes skin) (code_blanks skin 1) (blanks skin 2) (spaces_front skin skin.code_block.compound_style 1) (spaces_front skin skin.paragraph.compound_style 2)

one_blank : (skin : RowSkin) → AreInFront skin (blanks skin 1)
one_blank skin = spaces_front skin skin.paragraph.compound_style 1

signs_front : (skin : RowSkin) (level count : ℕ) → AreInFront skin (char_repeat (heading_sign skin level) count)
signs_front skin level zero = tt
signs_front skin level (suc count) = ((signs (suc count), refl, refl), tt)

first_front : (skin : RowSkin) (g : Gutter) → AreInFront skin (first_face skin g)
first_front skin Bar = ((quote_bar, refl, refl), one_blank skin)
first_front skin (AlertBar alert) = ((bar_of alert, refl, refl), one_blank skin)
first_front skin Bullet = ((bullet, refl, refl), one_blank skin)
first_front skin (Number n) = ((number n, refl, refl), ((after_number 0, refl, refl), one_blank skin))
first_front skin (Task done) = ((box done, refl, refl), one_blank skin)
first_front skin Code = code_front skin
first_front skin (Signs level) = all_joined (IsInFront skin) (char_repeat (heading_sign skin level) (level + 1)) (blanks skin 1) (signs_front skin level (level + 1)) (one_blank skin)
first_front skin (Below level) = tt

other_front : (skin : RowSkin) (g : Gutter) → AreInFront skin (other_face skin g)
other_front skin Bar = ((quote_bar, refl, refl), one_blank skin)
other_front skin (AlertBar alert) = ((bar_of alert, refl, refl), one_blank skin)
other_front skin Code = code_front skin
other_front skin g = spaces_front skin skin.paragraph.compound_style (gutter_columns (has_ascii_boxes skin) g)

faces_front : (skin : RowSkin) (first : Bool) (gs : List Gutter) → AreInFront skin (flat_map (face skin first) gs)
faces_front skin first [] = tt
faces_front skin first (g ∷ gs) =
    all_joined (IsInFront skin) (face skin first g) (flat_map (face skin first) gs) (if_front skin first (first_face skin g) (other_face skin g) (first_front skin g) (other_front skin g)) (faces_front skin first gs)

-- ---- rows

-- what is between marks is so with more of them in front, and more blanks behind
text_within : (skin : RowSkin) (text : List ℕ) (fronts ps ends : List RowPiece) → AreInFront skin fronts → AreBlank ends → IsTextBetween skin text ps → IsTextBetween skin text (fronts ++ (ps ++ ends))
text_within skin text fronts ps ends marks empty h = record {
  front = fronts ++ h.front;
  said = h.said;
  back = h.back ++ ends;
  whole = ap (λ (own : List RowPiece). fronts ++ (own ++ ends)) h.whole
      ∙ ap (λ (own : List RowPiece). fronts ++ own) (append_assoc h.front (h.said ++ h.back) ends ∙ ap (λ (own : List RowPiece). h.front ++ own) (append_assoc h.said h.back ends))
      ∙ sym (append_assoc fronts h.front (h.said ++ (h.back ++ ends)));
  marks = all_joined (IsInFront skin) fronts h.front marks h.marks;
  says = h.says;
  blanks = all_joined IsBlank h.back ends h.blanks empty;
}

cells_within : (skin : RowSkin) (texts : List (List ℕ)) (ps ends : List RowPiece) → AreBlank ends → AreCells skin texts ps → AreCells skin texts (ps ++ ends)
cells_within skin [] ps ends empty (last, back, joins, is, bare) = (last, back ++ ends, ap (λ (own : List RowPiece). own ++ ends) joins, is, all_joined IsBlank back ends bare empty)
cells_within skin (text ∷ texts) ps ends empty (left, own, more, joins, is, here, there) =
    (left, own, more ++ ends, ap (λ (all : List RowPiece). all ++ ends) joins ∙ ap (λ (all : List RowPiece). left ∷ all) (append_assoc own more ends), is, here, cells_within skin texts more ends empty there)

marks_within : (skin : RowSkin) (fronts ps ends : List RowPiece) → AreInFront skin fronts → AreBlank ends → AllByRecursion (IsMark skin) ps → AllByRecursion (IsMark skin) (fronts ++ (ps ++ ends))
marks_within skin fronts ps ends marks empty h = all_joined (IsMark skin) fronts (ps ++ ends) (as_marks fronts marks) (all_joined (IsMark skin) ps ends h (as_marks ends (in_front_of skin ends empty)))
  where
    as_marks : (qs : List RowPiece) → AreInFront skin qs → AllByRecursion (IsMark skin) qs
    as_marks [] k = tt
    as_marks (q ∷ qs) k = ((k.0.0, k.0.2), as_marks qs k.1)

line_within : (skin : RowSkin) (line : FmtLine) (fronts ps ends : List RowPiece) → AreInFront skin fronts → AreBlank ends → ArePiecesOf skin line ps → ArePiecesOf skin line (fronts ++ (ps ++ ends))
line_within skin (Normal l) fronts ps ends marks empty h = text_within skin (bytes_of (runs_of l)) fronts ps ends marks empty h
line_within skin (TableRow row) fronts ps ends marks empty h = record {
  front = fronts ++ h.front;
  cells = h.cells ++ ends;
  whole = ap (λ (own : List RowPiece). fronts ++ (own ++ ends)) h.whole ∙ ap (λ (own : List RowPiece). fronts ++ own) (append_assoc h.front h.cells ends) ∙ sym (append_assoc fronts h.front (h.cells ++ ends));
  marks = all_joined (IsInFront skin) fronts h.front marks h.marks;
  are = cells_within skin (texts_of row.cells.items) h.cells ends empty h.are;
}
line_within skin (TableRule across) fronts ps ends marks empty h = marks_within skin fronts ps ends marks empty h
line_within skin HorizontalRule fronts ps ends marks empty h = marks_within skin fronts ps ends marks empty h

-- each row is the text of its line between marks
pub others_are_marks : OthersAreMarks
others_are_marks skin outer filled row texts =
    let front : FrontContent = front_of row in
    let inner : RowSkin = line_skin skin front in
    let columns : Option ℕ = columns_behind (has_ascii_boxes skin) outer row.gutters in
    let count : ℕ = length row.gutters - row.fresh in
    let others : List RowPiece = flat_map (face skin false) (take count row.gutters) in
    let firsts : List RowPiece = flat_map (face skin true) (drop count row.gutters) in
    record {
      pieces = line_within skin row.line (faces skin row.gutters row.fresh) (behind_pieces skin outer filled row) (backs skin row.gutters)
          (all_joined (IsInFront skin) others firsts (faces_front skin false (take count row.gutters)) (faces_front skin true (drop count row.gutters)))
          (spaces_blank skin.code_block.compound_style (back_columns skin row.gutters))
          (pieces_in_skin skin front row.line (behind_pieces skin outer filled row) (toned_between inner columns (filled || in_box skin row.gutters) row.marks (tone_styles skin) row.number row.line texts));
      text = line_says row.line;
    }

-- The faces of gutters fill their columns.
use Rattle.std.proofs.Common.{◌≡◌, ℕ, zero, suc, ◌+◌, ◌-◌, ◌^◌, ◌<◌, ◌≤◌, Bool, true, false, List, [], ◌∷◌, ◌++◌, length, take, drop, Some, refl, ap, sym, ◌∙◌, subst, arith}
use Rattle.std.specs.Prelude.{decimal, if◌then◌else◌}
use Rattle.std.specs.Char.{IsScalar}
use Rattle.std.specs.List.{AllByRecursion, flat_map}
use Rattle.std.specs.Str.{chars, IsAscii}
use Rattle.std.proofs.lemmas.Str.{IsUtf8-from_ascii, chars-IsAscii}
use Rattle.std.proofs.lemmas.Str.Ascii.{IsAscii-cons, IsAscii-nil}
use Rattle.mad_characters.specs.Columns.{char_columns}
use Rattle.mad_characters.proofs.CharColumns.{char_columns-ascii}
use Rattle.mad_screen.specs.Painting.{IsShown}
use Rattle.std.proofs.lemmas.List.Concat.{flat_map-append}
use Rattle.mad_screen.specs.Glyph.{Glyph}
use Rattle.mad_screen.specs.Painting.{piece_cells}
use Rattle.mad_style.specs.StyledChars.{char_style, char_alone}
use Rattle.mad_style.specs.declared.styled_chars.StyledChar.{StyledChar}
use Rattle.mad_style.specs.declared.compound_styles.CompoundStyle.{CompoundStyle}
use Rattle.mad_measure.specs.TextColumns.{columns}
use Rattle.mad_measure.proofs.AllLemmas.{all_joined}
use Rattle.mad_draw.specs.Pieces.{RowPiece, IsColumnChar, IsShownPiece, FillsRow, pieces_columns, penned_chars, char_piece, char_repeat}
use Rattle.mad_draw.specs.PennedCells.{penned_cells}
use Rattle.mad_draw.proofs.CellLemmas.{cells_of_pieces}
use Rattle.mad_draw.proofs.ColumnChars.{printed_char, column_piece}
use Rattle.mad_draw.proofs.RunLemmas.{run_shown, run_columns}
use Rattle.mad_draw.proofs.PieceLemmas.{columns-both, spaces_columns, shown_spaces, pieces_cells, length-pieces_cells}
use Rattle.mad_rows.specs.RowStyles.{ordered_item_style}
use Rattle.mad_rows.specs.declared.page_styles.PageStyles.{PageStyles}
use Rattle.mad_rows.specs.declared.row_skin.RowSkin.{RowSkin}
use Rattle.mad_layout.proofs.PrefixLemmas.{number_shown, number_columns}
use Rattle.mad_sections.specs.Gutters.{gutter_columns, columns_of}
use Rattle.mad_sections.specs.declared.gutters.Gutter.{Gutter}
use Rattle.mad_sections.specs.declared.gutters.Gutter.TheVariants.{Bar, AlertBar, Bullet, Number, Task, Code, Signs, Below}
use Rattle.mad_sections.specs.declared.gutters.Alert.{Alert}
use Rattle.mad_sections.specs.declared.gutters.Alert.TheVariants.{Note, Tip, Important, Warning, Caution}
use Rattle.mad_sections.proofs.Choices.{by_bool}
use Rattle.mad_page_rows.specs.FaceLaws.{AreFacesShown, AreSignsShown, IsTypedGutter, front_columns, fronts, FacesFill, RowsFill, CellsAreBehind}
use Rattle.mad_page_rows.specs.Faces.{has_ascii_boxes, has_boxes, task_box, ascii_box, box_piece, alert_bar, heading_sign, blanks, code_blanks, code_face, first_face, other_face, face, faces, is_code, codes, back_columns, backs, behind_pieces, page_row_pieces}

-- ---- pieces, joined

both_fill : (n m : ℕ) (ps qs : List RowPiece) → FillsRow n ps → FillsRow m qs → FillsRow (n + m) (ps ++ qs)
both_fill n m ps qs h k =
    let both : pieces_columns (ps ++ qs) ≡ pieces_columns ps + pieces_columns qs = columns-both ps qs in
    record { shown = all_joined IsShownPiece ps qs h.shown k.shown; columns = omega (arith, both, h.columns, k.columns) }

blanks_fill : (skin : RowSkin) (n : ℕ) → FillsRow n (blanks skin n)
blanks_fill skin n = record { shown = shown_spaces skin.paragraph.compound_style n; columns = spaces_columns skin.paragraph.compound_style n }

-- a piece of so many columns, and a blank
piece_fills : (skin : RowSkin) (p : RowPiece) (n : ℕ) → IsShownPiece p → columns (chars p.text) ≡ n → FillsRow (n + 1) (p ∷ blanks skin 1)
piece_fills skin p n shown columns_are =
    let blank : FillsRow 1 (blanks skin 1) = blanks_fill skin 1 in
    record { shown = (shown, blank.shown); columns = omega (arith, columns_are, blank.columns) }

-- ---- characters

ascii_column : (c : ℕ) → IsScalar c → 32 ≤ c → c < 127 → IsColumnChar c
ascii_column c scalar low high = record { scalar = scalar; one = char_columns-ascii c low high }

-- three ASCII characters that are shown take three columns
three_fill : (style : CompoundStyle) (a b c : ℕ) → 32 ≤ a → a < 127 → 32 ≤ b → b < 127 → 32 ≤ c → c < 127 → IsShownPiece (record { style = style.object_style; text = a ∷ b ∷ c ∷ [] }) × (columns (chars (a ∷ b ∷ c ∷ [])) ≡ 3)
three_fill style a b c a_low a_high b_low b_high c_low c_high =
    let ascii : IsAscii (a ∷ b ∷ c ∷ []) = IsAscii-cons a (b ∷ c ∷ []) (omega arith) (IsAscii-cons b (c ∷ []) (omega arith) (IsAscii-cons c [] (omega arith) IsAscii-nil)) in
    let same : chars (a ∷ b ∷ c ∷ []) ≡ a ∷ b ∷ c ∷ [] = chars-IsAscii (a ∷ b ∷ c ∷ []) ascii in
    let one : char_columns a ≡ 1 = char_columns-ascii a a_low a_high in
    let two : char_columns b ≡ 1 = char_columns-ascii b b_low b_high in
    let three : char_columns c ≡ 1 = char_columns-ascii c c_low c_high in (
      record { utf8 = IsUtf8-from_ascii (a ∷ b ∷ c ∷ []) ascii; shown = subst IsShown (sym same) (record { printed = (printed_char a one, (printed_char b two, (printed_char c three, tt))); whole = omega (arith, one) }) },
      ap columns same ∙ omega (arith, one, two, three),
    )

-- a character of one column, and a blank
char_fills : (skin : RowSkin) (c : StyledChar) → IsColumnChar (char_alone c) → FillsRow 2 (char_piece c ∷ blanks skin 1)
char_fills skin c h = let one = column_piece c h in piece_fills skin (char_piece c) 1 one.shown one.one

ascii_fills : (skin : RowSkin) (style : CompoundStyle) (done : Bool) → FillsRow 4 (record { style = style.object_style; text = ascii_box done } ∷ blanks skin 1)
ascii_fills skin style true =
    let three = three_fill style 91 120 93 (omega arith) (omega arith) (omega arith) (omega arith) (omega arith) (omega arith) in
    piece_fills skin _ 3 three.0 three.1
ascii_fills skin style false =
    let three = three_fill style 91 32 93 (omega arith) (omega arith) (omega arith) (omega arith) (omega arith) (omega arith) in
    piece_fills skin _ 3 three.0 three.1

task_column : (page : PageStyles) (done : Bool) → AreSignsShown page → IsColumnChar (char_alone (task_box page done))
task_column page true h = h.done
task_column page false h = h.task

box_fills : (skin : RowSkin) (done : Bool) → AreFacesShown skin → FillsRow (if has_ascii_boxes skin then 4 else 2) (box_piece skin done ∷ blanks skin 1)
box_fills skin done h =
    let sign : StyledChar = task_box skin.page done in
    let ascii : RowPiece = record { style = (char_style sign).object_style; text = ascii_box done } in
    by_bool (λ t. FillsRow (if t then 4 else 2) ((if t then ascii else char_piece sign) ∷ blanks skin 1)) (has_ascii_boxes skin)
    (λ e. ascii_fills skin (char_style sign) done) (λ e. char_fills skin sign (task_column skin.page done h.page))

-- ---- faces

alert_column : (page : PageStyles) (alert : Alert) → AreSignsShown page → IsColumnChar (char_alone (alert_bar page alert))
alert_column page Note h = h.note
alert_column page Tip h = h.tip
alert_column page Important h = h.important
alert_column page Warning h = h.warning
alert_column page Caution h = h.caution

alert_fills : (skin : RowSkin) (alert : Alert) → AreFacesShown skin → FillsRow 2 (char_piece (alert_bar skin.page alert) ∷ blanks skin 1)
alert_fills skin alert h = char_fills skin (alert_bar skin.page alert) (alert_column skin.page alert h.page)

-- the signs of a heading, and a blank
signs_fill : (skin : RowSkin) (level : ℕ) → FillsRow (level + 2) (char_repeat (heading_sign skin level) (level + 1) ++ blanks skin 1)
signs_fill skin level =
    let sign = column_piece (heading_sign skin level) (ascii_column 35 refl (omega arith) (omega arith)) in
    let signs : FillsRow (level + 1) (char_repeat (heading_sign skin level) (level + 1)) = record { shown = run_shown (heading_sign skin level) (level + 1) sign; columns = run_columns (heading_sign skin level) (level + 1) sign } in
    let all : level + 1 + 1 ≡ level + 2 = omega arith in
    subst (λ (n : ℕ). FillsRow n (char_repeat (heading_sign skin level) (level + 1) ++ blanks skin 1)) all (both_fill (level + 1) 1 _ _ signs (blanks_fill skin 1))

number_fills : (skin : RowSkin) (n : ℕ) → AreFacesShown skin → n < 2 ^ 32 → FillsRow (length (decimal n) + 2) (first_face skin (Number n))
number_fills skin n h fits =
    let suffix = column_piece (ordered_item_style skin 0).index_suffix h.suffix in
    let after : FillsRow 2 (char_piece (ordered_item_style skin 0).index_suffix ∷ blanks skin 1) = piece_fills skin _ 1 suffix.shown suffix.one in
    record { shown = (number_shown (ordered_item_style skin 0).index_style n fits, after.shown); columns = omega (arith, number_columns n fits, after.columns) }

sides_fill : (skin : RowSkin) (n : ℕ) → FillsRow n (code_blanks skin n)
sides_fill skin n = record { shown = shown_spaces skin.code_block.compound_style n; columns = spaces_columns skin.code_block.compound_style n }

code_fills : (skin : RowSkin) → FillsRow (front_columns skin Code) (code_face skin)
code_fills skin = by_bool (λ t. FillsRow (if t then 1 else 2) (if t then code_blanks skin 1 else blanks skin 2)) (has_boxes skin) (λ e. sides_fill skin 1) (λ e. blanks_fill skin 2)

first_fills : (skin : RowSkin) (g : Gutter) → AreFacesShown skin → IsTypedGutter g → FillsRow (front_columns skin g) (first_face skin g)
first_fills skin Bar h typed = char_fills skin skin.quote_mark h.bar
first_fills skin (AlertBar alert) h typed = alert_fills skin alert h
first_fills skin Bullet h typed = char_fills skin skin.bullet h.bullet
first_fills skin (Number n) h typed = number_fills skin n h typed
first_fills skin (Task done) h typed = box_fills skin done h
first_fills skin Code h typed = code_fills skin
first_fills skin (Signs level) h typed = signs_fill skin level
first_fills skin (Below level) h typed = record { shown = tt; columns = refl }

other_fills : (skin : RowSkin) (g : Gutter) → AreFacesShown skin → FillsRow (front_columns skin g) (other_face skin g)
other_fills skin Bar h = char_fills skin skin.quote_mark h.bar
other_fills skin (AlertBar alert) h = alert_fills skin alert h
other_fills skin Bullet h = blanks_fill skin 2
other_fills skin (Number n) h = blanks_fill skin _
other_fills skin (Task done) h = blanks_fill skin _
other_fills skin Code h = code_fills skin
other_fills skin (Signs level) h = blanks_fill skin _
other_fills skin (Below level) h = blanks_fill skin 0

face_fills : (skin : RowSkin) (first : Bool) (g : Gutter) → AreFacesShown skin → IsTypedGutter g → FillsRow (front_columns skin g) (face skin first g)
face_fills skin true g h typed = first_fills skin g h typed
face_fills skin false g h typed = other_fills skin g h

all_fill : (skin : RowSkin) (first : Bool) (gs : List Gutter) → AreFacesShown skin → AllByRecursion IsTypedGutter gs → FillsRow (fronts skin gs) (flat_map (face skin first) gs)
all_fill skin first [] h typed = record { shown = tt; columns = refl }
all_fill skin first (g ∷ gs) h typed =
    both_fill (front_columns skin g) (fronts skin gs) (face skin first g) (flat_map (face skin first) gs) (face_fills skin first g h typed.0) (all_fill skin first gs h typed.1)

fronts_parted : (skin : RowSkin) (gs : List Gutter) (k : ℕ) → fronts skin (take k gs) + fronts skin (drop k gs) ≡ fronts skin gs
fronts_parted skin [] zero = omega arith
fronts_parted skin [] (suc k) = omega arith
fronts_parted skin (g ∷ gs) zero = omega arith
fronts_parted skin (g ∷ gs) (suc k) = let rest = fronts_parted skin gs k in omega (arith, rest)

typed_parts : (gs : List Gutter) (k : ℕ) → AllByRecursion IsTypedGutter gs → AllByRecursion IsTypedGutter (take k gs) × AllByRecursion IsTypedGutter (drop k gs)
typed_parts [] zero h = (tt, tt)
typed_parts [] (suc k) h = (tt, tt)
typed_parts (g ∷ gs) zero h = (tt, h)
typed_parts (g ∷ gs) (suc k) h = let rest = typed_parts gs k h.1 in ((h.0, rest.0), rest.1)

-- in front and behind
both_sides : (skin : RowSkin) (g : Gutter) → front_columns skin g + (if has_boxes skin then (if is_code g then 1 else 0) else 0) ≡ gutter_columns (has_ascii_boxes skin) g
both_sides skin Bar = by_bool (λ t. 2 + (if t then 0 else 0) ≡ 2) (has_boxes skin) (λ e. omega arith) (λ e. omega arith)
both_sides skin (AlertBar alert) = by_bool (λ t. 2 + (if t then 0 else 0) ≡ 2) (has_boxes skin) (λ e. omega arith) (λ e. omega arith)
both_sides skin Bullet = by_bool (λ t. 2 + (if t then 0 else 0) ≡ 2) (has_boxes skin) (λ e. omega arith) (λ e. omega arith)
both_sides skin (Number n) = by_bool (λ t. length (decimal n) + 2 + (if t then 0 else 0) ≡ length (decimal n) + 2) (has_boxes skin) (λ e. omega arith) (λ e. omega arith)
both_sides skin (Task done) = by_bool (λ t. (if has_ascii_boxes skin then 4 else 2) + (if t then 0 else 0) ≡ (if has_ascii_boxes skin then 4 else 2)) (has_boxes skin) (λ e. omega arith) (λ e. omega arith)
both_sides skin Code = by_bool (λ t. (if t then 1 else 2) + (if t then 1 else 0) ≡ 2) (has_boxes skin) (λ e. omega arith) (λ e. omega arith)
both_sides skin (Signs level) = by_bool (λ t. level + 2 + (if t then 0 else 0) ≡ level + 2) (has_boxes skin) (λ e. omega arith) (λ e. omega arith)
both_sides skin (Below level) = by_bool (λ t. 0 + (if t then 0 else 0) ≡ 0) (has_boxes skin) (λ e. omega arith) (λ e. omega arith)

all_sides : (skin : RowSkin) (gs : List Gutter) → fronts skin gs + back_columns skin gs ≡ columns_of (has_ascii_boxes skin) gs
all_sides skin [] = by_bool (λ t. 0 + (if t then 0 else 0) ≡ 0) (has_boxes skin) (λ e. omega arith) (λ e. omega arith)
all_sides skin (g ∷ gs) =
    let own = both_sides skin g in
    let more = all_sides skin gs in
    by_bool (λ t. front_columns skin g + (if t then (if is_code g then 1 else 0) else 0) ≡ gutter_columns (has_ascii_boxes skin) g → fronts skin gs + (if t then codes gs else 0) ≡ columns_of (has_ascii_boxes skin) gs
    → front_columns skin g + fronts skin gs + (if t then (if is_code g then 1 else 0) + codes gs else 0) ≡ gutter_columns (has_ascii_boxes skin) g + columns_of (has_ascii_boxes skin) gs) (has_boxes skin)
    (λ e a b. omega (arith, a, b)) (λ e a b. omega (arith, a, b)) own more

-- the faces of gutters fill their columns
pub faces_fill : FacesFill
faces_fill skin gs fresh h typed =
    let k : ℕ = length gs - fresh in
    let parts = typed_parts gs k typed in
    record {
      front = subst (λ (n : ℕ). FillsRow n (faces skin gs fresh)) (fronts_parted skin gs k)
          (both_fill (fronts skin (take k gs)) (fronts skin (drop k gs)) _ _ (all_fill skin false (take k gs) h parts.0) (all_fill skin true (drop k gs) h parts.1));
      back = sides_fill skin (back_columns skin gs);
      all = all_sides skin gs;
    }

-- a row fills a width, where its line fills what its gutters leave
pub rows_fill : RowsFill
rows_fill skin width row h typed fits line =
    let g : ℕ = columns_of (has_ascii_boxes skin) row.gutters in
    let sides = faces_fill skin row.gutters row.fresh h typed in
    let whole : fronts skin row.gutters + ((width - g) + back_columns skin row.gutters) ≡ width = omega (arith, fits, sides.all) in
    subst (λ (n : ℕ). FillsRow n (page_row_pieces skin (Some width) true row)) whole
    (both_fill (fronts skin row.gutters) ((width - g) + back_columns skin row.gutters) _ _ sides.front (both_fill (width - g) (back_columns skin row.gutters) _ _ line sides.back))

cells_both : (ps qs : List RowPiece) → AllByRecursion IsShownPiece ps → AllByRecursion IsShownPiece qs → penned_cells (penned_chars (ps ++ qs)) ≡ penned_cells (penned_chars ps) ++ penned_cells (penned_chars qs)
cells_both ps qs p q =
    cells_of_pieces (ps ++ qs) (all_joined IsShownPiece ps qs p q)
    ∙ flat_map-append (λ (p : RowPiece). piece_cells p.style p.text) ps qs
    ∙ ap (λ (gs : List Glyph). gs ++ pieces_cells qs) (sym (cells_of_pieces ps p))
    ∙ ap (λ (gs : List Glyph). penned_cells (penned_chars ps) ++ gs) (sym (cells_of_pieces qs q))

-- the cells of a row are those of its faces, of its line, and of the sides of boxes
pub cells_are_behind : CellsAreBehind
cells_are_behind skin width row h typed shown =
    let ps : List RowPiece = faces skin row.gutters row.fresh in
    let qs : List RowPiece = behind_pieces skin (Some width) true row in
    let bs : List RowPiece = backs skin row.gutters in
    let sides = faces_fill skin row.gutters row.fresh h typed in
    record {
      front = ap length (cells_of_pieces ps sides.front.shown) ∙ length-pieces_cells ps ∙ sides.front.columns;
      cells = cells_both ps (qs ++ bs) sides.front.shown (all_joined IsShownPiece qs bs shown sides.back.shown)
          ∙ ap (λ (gs : List Glyph). penned_cells (penned_chars ps) ++ gs) (cells_both qs bs shown sides.back.shown);
    }

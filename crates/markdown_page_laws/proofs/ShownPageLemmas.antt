-- The rows of a page show its sections.
use Rattle.std.proofs.Common.{◌≡◌, ◌⊎◌, inl, inr, ℕ, zero, suc, ◌+◌, ◌*◌, ◌≤◌, ◌==◌, min, nat_le, Bool, true, false, not, ◌&&◌, List, [], ◌∷◌, ◌++◌, length, map, drop, take, sum, Option, Some, None, is_some, if◌then◌else◌, refl, ap, sym, ◌∙◌, subst, arith, append-nil}
use Rattle.std.specs.Char.{is_whitespace}
use Rattle.std.specs.List.{AllByRecursion, AllZip, flat_map}
use Rattle.std.proofs.lemmas.Bool.Decides.{nat_tests}
use Rattle.std.proofs.lemmas.List.Sums.{sum_by-cons}
use Rattle.mad_md.specs.Flagged.{FlaggedChar, Run}
use Rattle.mad_md.specs.Lines.{StyledRuns, LineContent, normal, table_row, table_rule, horizontal_rule}
use Rattle.mad_format.specs.LineRules.{LineRules}
use Rattle.mad_format.specs.Lists.{EachBecomes}
use Rattle.mad_format.proofs.ListLemmas.{become_by}
use Rattle.mad_blocks.proofs.LayoutJoins.{by_bool}
use Rattle.mad_sections.specs.Gutters.{room_at}
use Rattle.mad_sections.specs.Items.{paragraph, label, cell_lines, row_lines, or_blank, item_lines, says_heads, items_of}
use Rattle.mad_sections.specs.Sections.{SectionContent}
use Rattle.mad_sections.specs.TableTexts.{are_table, rows_in, columns_count, least_width, least_widths, has_room}
use Rattle.mad_sections.specs.UnfoldLaws.{lines_text, IsMadeOfBoth, row_text, labels_text, KeepsRow, IsListOf}
use Rattle.mad_sections.specs.declared.table_rooms.TableRules.{TableRules}
use Rattle.mad_blocks.specs.Tables.{least_room, table_rules}
use Rattle.mad_sections.specs.Unfolded.{lacks_room, list_sections, as_list, unfolded_in, unfolded}
use Rattle.mad_sections.specs.declared.gutters.Gutter.{Gutter}
use Rattle.mad_sections.proofs.KeptLemmas.{list_when, stays_when}
use Rattle.mad_sections.proofs.TableLemmas.{widths_count}
use Rattle.mad_pages.specs.PageRows.{RowContent}
use Rattle.markdown_page_laws.specs.KeptMarkdown.{solid, IsShownBy, ShowItem, ShowList, ShowSection, PagesShow}
use Rattle.markdown_page_laws.specs.KeptPages.{lines_of_rows, KeepsSection, KeepsShown}
use Rattle.markdown_page_laws.specs.TableSections.{HaveNoRow, IsTableOrNone}
use Rattle.markdown_page_laws.proofs.BecomeLemmas.{one_becomes, parts_become}
use Rattle.markdown_page_laws.proofs.CharacterLemmas.{AreTexts, texts_have_no_row, texts_solid, nones_shown, lines_shown}
use Rattle.markdown_page_laws.proofs.PageLemmas.{pages_keep}

-- ---- characters of two texts

-- what is made of two texts is made of their characters that aren't whitespace
made_solid : (xs ys zs : List FlaggedChar) → IsMadeOfBoth xs ys zs → IsMadeOfBoth (solid xs) (solid ys) (solid zs)
made_solid xs ys [] made = (ap solid made.0, ap solid made.1)
made_solid xs ys (z ∷ zs) (inl (rest, same, made)) =
    let more = made_solid rest ys zs made in
    subst (λ (l : List FlaggedChar). IsMadeOfBoth (solid l) (solid ys) (solid (z ∷ zs))) (sym same)
    (by_bool (λ b. IsMadeOfBoth (if b then solid rest else z ∷ solid rest) (solid ys) (if b then solid zs else z ∷ solid zs)) (is_whitespace z.char) (λ on. more) (λ off. inl (solid rest, refl, more)))
made_solid xs ys (z ∷ zs) (inr (rest, same, made)) =
    let more = made_solid xs rest zs made in
    subst (λ (l : List FlaggedChar). IsMadeOfBoth (solid xs) (solid l) (solid (z ∷ zs))) (sym same)
    (by_bool (λ b. IsMadeOfBoth (solid xs) (if b then solid rest else z ∷ solid rest) (if b then solid zs else z ∷ solid zs)) (is_whitespace z.char) (λ on. more) (λ off. inr (solid rest, refl, more)))

-- ---- items

cell_texts : (front : List Run) (cell : StyledRuns) (lines : List LineContent) → AreTexts lines → AreTexts (cell_lines front cell ++ lines)
cell_texts front cell lines h = by_bool (λ b. AreTexts ((if b then [] else paragraph (front ++ cell.runs) ∷ []) ++ lines)) (length cell.runs == 0) (λ none. h) (λ some. (tt, h))

row_texts : (heads cells : List StyledRuns) → AreTexts (row_lines heads cells)
row_texts heads [] = tt
row_texts heads (cell ∷ cells) = cell_texts (label heads) cell (row_lines (drop 1 heads) cells) (row_texts (drop 1 heads) cells)

blank_texts : (lines : List LineContent) → AreTexts lines → AreTexts (or_blank lines)
blank_texts [] h = (tt, tt)
blank_texts (line ∷ lines) h = h

rows_texts : (heads : List StyledRuns) (rows : List (List StyledRuns)) → AllByRecursion AreTexts (map (item_lines heads) rows)
rows_texts heads [] = tt
rows_texts heads (cells ∷ rows) = (blank_texts (row_lines heads cells) (row_texts heads cells), rows_texts heads rows)

items_texts : (room : ℕ) (rows : List (List StyledRuns)) → AllByRecursion AreTexts (items_of room rows)
items_texts room [] = tt
items_texts room (heads ∷ rows) =
    by_bool (λ b. AllByRecursion AreTexts (if b then map (item_lines heads) rows else map (item_lines []) (heads ∷ rows))) (says_heads room heads rows) (λ on. rows_texts heads rows) (λ off. rows_texts [] (heads ∷ rows))

-- the lines of all sections are composites
abbrev AreTextSections : List SectionContent → Type 0
AreTextSections sections = AllByRecursion (λ (s : SectionContent). AreTexts s.lines) sections

list_texts : (gutters : List Gutter) (fresh : ℕ) (items : List (List LineContent)) → AllByRecursion AreTexts items → AreTextSections (list_sections gutters fresh items)
list_texts gutters fresh [] h = tt
list_texts gutters fresh (lines ∷ items) h = (h.0, list_texts gutters 0 items h.1)

listed_texts : (room : ℕ) (gutters : List Gutter) (s : SectionContent) → AreTextSections (as_list room gutters s)
listed_texts room gutters s = list_texts gutters (min s.fresh (length s.gutters)) (items_of room (rows_in s.lines)) (items_texts room (rows_in s.lines))

-- ---- a table that is a list

item_shown : (rules : LineRules) (ascii : Bool) (width : ℕ) (heads cells : List StyledRuns) (item : SectionContent) (rows : List RowContent) → KeepsRow heads cells item.lines → AreTexts item.lines → KeepsSection rules ascii width item rows
    → ShowItem heads cells rows
item_shown rules ascii width heads cells item rows said texts kept =
    let room : ℕ = room_at ascii width item.gutters in
    let shown = texts_solid rules room (columns_count item.lines) item.lines (lines_of_rows rows) texts kept.lines in
    record {
      lines = item.lines;
      said = said;
      shown = nones_shown rules room (columns_count item.lines) item.lines (lines_of_rows rows) (texts_have_no_row item.lines texts) kept.lines;
      characters = subst (IsMadeOfBoth (solid (labels_text heads cells)) (solid (row_text cells))) (sym shown) (made_solid (labels_text heads cells) (row_text cells) (lines_text item.lines) said.text);
    }

items_shown : (rules : LineRules) (ascii : Bool) (width : ℕ) (heads : List StyledRuns) (table : List (List StyledRuns)) (items : List SectionContent) (rows : List RowContent)
    → AllZip (λ (cells : List StyledRuns) (item : SectionContent). KeepsRow heads cells item.lines) table items → AreTextSections items → EachBecomes (KeepsSection rules ascii width) items rows → EachBecomes (ShowItem heads) table rows
items_shown rules ascii width heads [] [] rows said texts kept = kept
items_shown rules ascii width heads [] (item ∷ items) rows said texts kept = absurd said
items_shown rules ascii width heads (cells ∷ table) [] rows said texts kept = absurd said
items_shown rules ascii width heads (cells ∷ table) (item ∷ items) rows said texts (here, there, joins, one, more) =
    (here, there, joins, item_shown rules ascii width heads cells item here said.0 texts.0 one, items_shown rules ascii width heads table items there said.1 texts.1 more)

items_told : (rules : LineRules) (ascii : Bool) (width : ℕ) (items : List SectionContent) (rows : List RowContent) → AreTextSections items → EachBecomes (KeepsSection rules ascii width) items rows
    → EachBecomes (λ (item : SectionContent) (own : List RowContent). EachBecomes IsShownBy item.lines (lines_of_rows own)) items rows
items_told rules ascii width [] rows texts kept = kept
items_told rules ascii width (item ∷ items) rows texts (here, there, joins, one, more) = (
  here,
  there,
  joins,
  nones_shown rules (room_at ascii width item.gutters) (columns_count item.lines) item.lines (lines_of_rows here) (texts_have_no_row item.lines texts.0) one.lines,
  items_told rules ascii width items there texts.1 more,
)

list_shown : (rules : LineRules) (ascii : Bool) (width : ℕ) (s : SectionContent) (items : List SectionContent) (rows : List RowContent) → IsListOf s items → AreTextSections items → EachBecomes (KeepsSection rules ascii width) items rows
    → ShowList s.lines rows
list_shown rules ascii width s items rows list texts kept =
    record { heads = list.heads; items = list.rows; whole = list.whole; shown = items_shown rules ascii width list.heads list.rows items rows list.kept texts kept }

-- ---- a section that stays

-- the lines of sections
abbrev pub lines_of : List SectionContent → List LineContent
lines_of sections = flat_map (λ (s : SectionContent). s.lines) sections

-- what laying out a table asks of a skin
abbrev rules_of : Bool → Bool → TableRules
rules_of w b = record { whole_words = w; cell_blanks = b }

-- the least widths of n columns: three each, and their blanks
abbrev least_columns : Bool → ℕ → ℕ
least_columns true n = 5 * n
least_columns false n = 3 * n

one_column : (w b : Bool) (cells : List StyledRuns) → least_columns b 1 ≤ least_width (rules_of w b) cells
one_column true true cells = omega arith
one_column true false cells = omega arith
one_column false true cells = omega arith
one_column false false cells = omega arith

one_more : (b : Bool) (n : ℕ) → least_columns b (suc n) ≡ least_columns b 1 + least_columns b n
one_more true n = omega arith
one_more false n = omega arith

no_columns : (b : Bool) → least_columns b 0 ≡ 0
no_columns true = refl
no_columns false = refl

three_each : (w b : Bool) (n : ℕ) (rows : List (List StyledRuns)) → least_columns b n ≤ sum (least_widths (rules_of w b) n rows)
three_each w b zero rows = let none = no_columns b in omega (arith, none)
three_each w b (suc n) rows =
    let more = three_each w b n (map (drop 1) rows) in
    let own = sum_by-cons (λ x. x) (least_width (rules_of w b) (flat_map (take 1) rows)) (least_widths (rules_of w b) n (map (drop 1) rows)) in
    let first = one_column w b (flat_map (take 1) rows) in
    let both = one_more b n in
    omega (arith, more, own, first, both)

within_by : (m n : ℕ) → nat_le m n ≡ true → m ≤ n
within_by m n on = grind (arith, nat_tests, on)

room_by_sum : (b : Bool) (n room total : ℕ) → least_columns b n ≤ total → total + n + 1 ≤ room → least_room b n ≤ room
room_by_sum true n room total least fits = omega (arith, least, fits)
room_by_sum false n room total least fits = omega (arith, least, fits)

has_three : (w b : Bool) (room : ℕ) (lines : List LineContent) → has_room (rules_of w b) room lines ≡ true → least_room b (columns_count lines) ≤ room
has_three w b room lines has =
    let n : ℕ = columns_count lines in
    let widths : List ℕ = least_widths (rules_of w b) n (rows_in lines) in
    let fits = within_by (sum widths + length widths + 1) room has in
    let count = widths_count (rules_of w b) n (rows_in lines) in
    room_by_sum b n room (sum widths) (three_each w b n (rows_in lines)) (omega (arith, fits, count))

none_in : (lines : List LineContent) → length (rows_in lines) ≡ 0 → HaveNoRow lines
none_in [] h = tt
none_in (normal said ∷ lines) h = (tt, none_in lines h)
none_in (table_row cells ∷ lines) h = absurd (omega (arith, h))
none_in (table_rule aligns ∷ lines) h = (tt, none_in lines h)
none_in (horizontal_rule ∷ lines) h = (tt, none_in lines h)

zero_by : (n : ℕ) → (n == 0) ≡ true → n ≡ 0
zero_by n e = grind (arith, nat_tests, e)

-- no line is a row of a table, or the columns of all rows have room
abbrev HaveRoom : Bool → ℕ → List LineContent → Type 0
HaveRoom b room lines = HaveNoRow lines ⊎ (least_room b (columns_count lines) ≤ room)

stays_with_room : (w b : Bool) (room : ℕ) (lines : List LineContent) → are_table lines ≡ true → lacks_room (rules_of w b) room lines ≡ false → HaveRoom b room lines
stays_with_room w b room lines all has =
    by_bool (λ z. (length (rows_in lines) == 0) ≡ z → HaveRoom b room lines) (length (rows_in lines) == 0)
    (λ none e. inl (none_in lines (zero_by (length (rows_in lines)) e)))
    (λ some e. by_bool (λ h. has_room (rules_of w b) room lines ≡ h → HaveRoom b room lines) (has_room (rules_of w b) room lines)
    (λ on f. inr (has_three w b room lines f))
    (λ off f. absurd (lacks e f))
    refl)
    refl
  where
    lacks : (length (rows_in lines) == 0) ≡ false → has_room (rules_of w b) room lines ≡ false → ⊥
    lacks e f =
        let is : lacks_room (rules_of w b) room lines ≡ true =
        ap (λ t. t && not (length (rows_in lines) == 0) && not (has_room (rules_of w b) room lines)) all ∙ ap (λ t. not t && not (has_room (rules_of w b) room lines)) e ∙ ap (λ t. not t) f in
        cc

section_shown : (rules : LineRules) (ascii : Bool) (width : ℕ) (s : SectionContent) (rows : List RowContent) → HaveRoom rules.cell_blanks (room_at ascii width s.gutters) s.lines → KeepsSection rules ascii width s rows
    → EachBecomes IsShownBy s.lines (lines_of_rows rows)
section_shown rules ascii width s rows (inl none) kept = nones_shown rules (room_at ascii width s.gutters) (columns_count s.lines) s.lines (lines_of_rows rows) none kept.lines
section_shown rules ascii width s rows (inr wide) kept = lines_shown rules (room_at ascii width s.gutters) (columns_count s.lines) s.lines (lines_of_rows rows) wide kept.lines

-- Rows show a section, and the lines that are shown of it, one after the other.
abbrev pub Shows : LineRules → Bool → ℕ → SectionContent → List RowContent → Type 0
Shows rules ascii width s rows = ShowSection s rows × EachBecomes IsShownBy (lines_of (unfolded (table_rules rules) ascii (Some width) s)) (lines_of_rows rows)

stays_shown : (rules : LineRules) (ascii : Bool) (width : ℕ) (s : SectionContent) (rows : List RowContent) → unfolded (table_rules rules) ascii (Some width) s ≡ s ∷ [] → HaveRoom rules.cell_blanks (room_at ascii width s.gutters) s.lines
    → KeepsShown rules ascii width s rows → Shows rules ascii width s rows
stays_shown rules ascii width s rows stays room kept =
    let one : KeepsSection rules ascii width s rows =
    one_becomes (KeepsSection rules ascii width) s rows (subst (λ (all : List SectionContent). EachBecomes (KeepsSection rules ascii width) all rows) stays kept) in
    let shown = section_shown rules ascii width s rows room one in
    (inl shown, subst (λ (lines : List LineContent). EachBecomes IsShownBy lines (lines_of_rows rows)) (sym (ap lines_of stays ∙ append-nil s.lines)) shown)

-- ---- sections

room_by : (w b : Bool) (room : ℕ) (s : SectionContent) → IsTableOrNone s → lacks_room (rules_of w b) room s.lines ≡ false → HaveRoom b room s.lines
room_by w b room s (inl none) has = inl none
room_by w b room s (inr tabled) has = stays_with_room w b room s.lines tabled.0 has

no_list : (s : SectionContent) → s.list ≡ None → IsTableOrNone s → HaveNoRow s.lines
no_list s none (inl h) = h
no_list s none (inr tabled) = absurd (lost (ap is_some (sym none) ∙ tabled.1))
  where
    lost : false ≡ true → ⊥
    lost e = cc

shown_by : (rules : LineRules) (ascii : Bool) (width : ℕ) (s : SectionContent) (rows : List RowContent) (list : Option (List Gutter)) → s.list ≡ list → IsTableOrNone s → KeepsShown rules ascii width s rows
    → Shows rules ascii width s rows
shown_by rules ascii width s rows None is h kept =
    stays_shown rules ascii width s rows (ap (λ (l : Option (List Gutter)). unfolded_in (table_rules rules) (Some (room_at ascii width s.gutters)) l s) is) (inl (no_list s is h)) kept
shown_by rules ascii width s rows (Some gutters) is h kept =
    let room : ℕ = room_at ascii width s.gutters in
    let items : List SectionContent = unfolded (table_rules rules) ascii (Some width) s in
    by_bool (λ b. lacks_room (table_rules rules) room s.lines ≡ b → Shows rules ascii width s rows) (lacks_room (table_rules rules) room s.lines)
    (λ on lacks.
    let all : as_list room gutters s ≡ items =
    ap (λ (t : Bool). if t then as_list room gutters s else s ∷ []) (sym lacks) ∙ ap (λ (l : Option (List Gutter)). unfolded_in (table_rules rules) (Some room) l s) (sym is) in
    let texts : AreTextSections items = subst AreTextSections all (listed_texts room gutters s) in (
      inr (list_shown rules ascii width s items rows (list_when (table_rules rules) ascii width s gutters is lacks) texts kept),
      parts_become IsShownBy (λ (item : SectionContent). item.lines) (λ (row : RowContent). row.line) items rows (items_told rules ascii width items rows texts kept),
    ))
    (λ off has. stays_shown rules ascii width s rows (stays_when (table_rules rules) ascii width s gutters is has) (room_by rules.whole_words rules.cell_blanks room s h has) kept)
    refl

-- the rows of what is shown in the place of a section show it, and the lines that are shown of it
pub section_shows : (rules : LineRules) (ascii : Bool) (width : ℕ) (s : SectionContent) (rows : List RowContent) → IsTableOrNone s → KeepsShown rules ascii width s rows → Shows rules ascii width s rows
section_shows rules ascii width s rows h kept = shown_by rules ascii width s rows s.list refl h kept

-- the rows of a page show its sections
pub pages_show : PagesShow
pages_show rules ascii width page rows wide bound laid =
    become_by (KeepsShown rules ascii width) (λ (s : SectionContent) (own : List RowContent). IsTableOrNone s → ShowSection s own) (λ s own kept h. (section_shows rules ascii width s own h kept).0) page rows
    (pages_keep rules ascii width page rows wide bound laid)

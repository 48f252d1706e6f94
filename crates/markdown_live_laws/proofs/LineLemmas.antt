-- Lines that leaves are shown as: their runs are texts that a terminal doesn't obey, and no line has a sign of its own.
use Rattle.std.proofs.Common.{◌≡◌, ℕ, zero, suc, ◌-◌, ◌%◌, Bool, true, false, not, ◌&&◌, ◌||◌, ◌==◌, List, [], ◌∷◌, ◌++◌, append-nil, map, length, take, refl, ap, ◌∙◌, arith, if◌then◌else◌}
use Rattle.std.specs.Prelude.{chars, encode_utf8, encode_utf8_all, is_some}
use Rattle.std.specs.Char.{IsScalar}
use Rattle.std.specs.List.{AllByRecursion, list_all}
use Rattle.std.specs.Str.{IsUtf8}
use Rattle.std.specs.Str.Lossy.{utf8_lossy}
use Rattle.std.proofs.lemmas.Bool.{and_parts}
use Rattle.std.proofs.lemmas.Bool.Decides.{nat_tests}
use Rattle.std.proofs.lemmas.Str.{encodes-append, scalars-chars}
use Rattle.mad_measure.proofs.AllLemmas.{all_joined}
use Rattle.mad_md.specs.Flagged.{Run}
use Rattle.mad_md.specs.Lines.{LineContent, StyledRuns, horizontal_rule, normal, table_row, table_rule}
use Rattle.mad_md.specs.declared.alignment.Alignment.{Alignment}
use Rattle.mad_md.specs.declared.composite.CompositeStyle.{CompositeStyle}
use Rattle.mad_md.specs.declared.composite.CompositeStyle.TheVariants.{Paragraph}
use Rattle.markdown_cells.specs.Cells.{after_cell, alignments, cell_text}
use Rattle.markdown_html_text.specs.HtmlPieces.{html_cut}
use Rattle.markdown_emphasis.specs.Flags.{flags_of}
use Rattle.markdown_pieces.specs.Cut.{CutText, cut_text}
use Rattle.markdown_inlines.specs.Printable.{is_printable, is_shown, shown_char}
use Rattle.markdown_inlines.proofs.PrintableLemmas.{from_shown, shown_is}
use Rattle.markdown_lines.specs.Printed.{is_obeyed}
use Rattle.markdown_inlines.specs.Styled.{Shown}
use Rattle.markdown_inlines.specs.Inlines.{all_over, are_shown, char_of, left_of, shown_cut}
use Rattle.markdown_lines.specs.Code.{code_lines, code_text, expanded, expanded_char, next_column, spaces}
use Rattle.markdown_lines.specs.Glyphs.{glyph_of, html_glyphs, is_edge, is_same_run, leaf_glyphs, run_with, runs_from, runs_of, space, spaced_from, trimmed, without_back, without_front}
use Rattle.markdown_lines.specs.Leaf.{cell_runs, html_lines, leaf_rows, row_of, rows_from, rows_of}
use Rattle.markdown_lines.specs.Restyled.{restyled, row_runs}
use Rattle.markdown_lines.specs.Tables.{body, cells, row_said, shown_cells, table_lines}
use Rattle.markdown_lines.specs.declared.glyphs.Glyph.{Glyph}
use Rattle.markdown_marks.specs.Remaining.{Remaining}
use Rattle.markdown_marks.specs.Tables as tables
use Rattle.markdown_reader.specs.PlainLines.{IsPlainStyle}
use Rattle.markdown_live_laws.proofs.HtmlLemmas.{html_chars}
use Rattle.markdown_live_laws.proofs.TextLemmas.{AreChars, IsShownChar, from_scalars, leaf_chars, lossy_utf8, shown_is_char}

-- ---- lines

-- a character that a terminal doesn't obey
abbrev pub IsClear : ℕ → Type 0
IsClear c = IsScalar c × (is_obeyed c ≡ false)

abbrev pub AreClear : List ℕ → Type 0
AreClear cs = AllByRecursion IsClear cs

-- the text of a run spells such characters
abbrev pub IsClearText : List ℕ → Type 0
IsClearText text = (cs : List ℕ) × AreClear cs × (encode_utf8_all cs ≡ text)

abbrev pub IsClearRun : Run → Type 0
IsClearRun run = IsClearText run.text

abbrev pub AreTexts : List Run → Type 0
AreTexts runs = AllByRecursion IsClearRun runs

-- a paragraph whose runs are texts
pub record IsOwnCell (cell : StyledRuns) : Type 0 where
  pub style : cell.style ≡ Paragraph
  pub runs : AreTexts cell.runs

-- a line without a sign of its own whose runs are texts
pub record IsOwnText (text : StyledRuns) : Type 0 where
  pub style : IsPlainStyle text.style
  pub runs : AreTexts text.runs

abbrev pub IsOwnLine : LineContent → Type 0
IsOwnLine (normal text) = IsOwnText text
IsOwnLine (table_row cells) = AllByRecursion IsOwnCell cells
IsOwnLine (table_rule aligns) = Unit {0}
IsOwnLine horizontal_rule = Unit {0}

abbrev pub AreOwnLines : List LineContent → Type 0
AreOwnLines lines = AllByRecursion IsOwnLine lines

-- ---- characters of a leaf

-- a break, or a character that a terminal doesn't obey
abbrev is_fine : ℕ → Bool
is_fine c = (c == 10) || not (is_obeyed c)

record IsFineGlyph (g : Glyph) : Type 0 where
  scalar : IsScalar g.c
  fine : is_fine g.c ≡ true

abbrev AreFine : List Glyph → Type 0
AreFine gs = AllByRecursion IsFineGlyph gs

abbrev IsClearGlyph : Glyph → Type 0
IsClearGlyph g = IsClear g.c

abbrev AreClearGlyphs : List Glyph → Type 0
AreClearGlyphs gs = AllByRecursion IsClearGlyph gs

printable_clear : (c : ℕ) → is_printable c ≡ true → is_obeyed c ≡ false
printable_clear c h = grind (arith, nat_tests)

-- a character is clear as it is shown
pub shown_clear : (c : ℕ) → IsScalar c → IsClear (shown_char c)
shown_clear c h = (shown_is_char c h, printable_clear (shown_char c) (shown_is c))

fine_by : (newline : Bool) (c : ℕ) → (newline || is_printable c) ≡ true → (newline || not (is_obeyed c)) ≡ true
fine_by true c h = refl
fine_by false c h = ap not (printable_clear c h)

clear_by : (newline obeyed : Bool) → newline ≡ false → (newline || not obeyed) ≡ true → obeyed ≡ false
clear_by false false e h = refl
clear_by false true e h = absurd (cc)
clear_by true obeyed e h = absurd (cc)

fine_or_space : (t : Bool) (c : ℕ) → is_fine c ≡ true → is_fine (if t then 32 else c) ≡ true
fine_or_space true c h = refl
fine_or_space false c h = h

char_or_space : (t : Bool) (c : ℕ) → IsScalar c → IsScalar (if t then 32 else c)
char_or_space true c h = refl
char_or_space false c h = h

glyphs_are : (bold : Bool) (shown : List Shown) → AllByRecursion IsShownChar shown → are_shown shown ≡ true → AreFine (map (glyph_of bold) shown)
glyphs_are bold [] h k = tt
glyphs_are bold (s ∷ ss) h k =
    let both = and_parts (is_shown s.char) (list_all is_shown (map char_of ss)) k in
    let picture : Bool = is_some s.look.picture && (s.char == 10) in
    (record { scalar = char_or_space picture s.char h.0; fine = fine_or_space picture s.char (fine_by (s.char == 10) s.char both.0) }, glyphs_are bold ss h.1 both.1)

cut_fine : (bold : Bool) (cut : CutText) (text : List ℕ) → AllByRecursion IsShownChar (shown_cut cut text) → AreFine (map (glyph_of bold) (shown_cut cut text))
cut_fine bold cut text h = glyphs_are bold (shown_cut cut text) h (from_shown text 0 cut.pieces (flags_of (length cut.pieces) cut.pairs) (left_of cut.pairs cut.pieces) (all_over cut.pieces))

leaf_fine : (labels : List (List ℕ)) (bold : Bool) (text : List ℕ) → IsUtf8 text → AreFine (leaf_glyphs labels bold text)
leaf_fine labels bold text utf8 = cut_fine bold (cut_text labels text) text (leaf_chars labels text utf8)

if_glyphs : (P : Glyph → Type 0) (t : Bool) (a b : List Glyph) → AllByRecursion P a → AllByRecursion P b → AllByRecursion P (if t then a else b)
if_glyphs P true a b h k = h
if_glyphs P false a b h k = k

front_off : (P : Glyph → Type 0) (gs : List Glyph) → AllByRecursion P gs → AllByRecursion P (without_front gs)
unfolding without_front
front_off P [] h = tt
front_off P (g ∷ gs) h = if_glyphs P (is_edge g) (without_front gs) (g ∷ gs) (front_off P gs h.1) h

take_some : (P : Glyph → Type 0) (n : ℕ) (gs : List Glyph) → AllByRecursion P gs → AllByRecursion P (take n gs)
take_some P zero gs h = tt
take_some P (suc n) [] h = tt
take_some P (suc n) (g ∷ gs) h = (h.0, take_some P n gs h.1)

back_off : (P : Glyph → Type 0) (gs : List Glyph) → AllByRecursion P gs → AllByRecursion P (without_back gs)
unfolding without_back
back_off P gs h = take_some P _ gs h

trimmed_are : (P : Glyph → Type 0) (gs : List Glyph) → AllByRecursion P gs → AllByRecursion P (trimmed gs)
trimmed_are P gs h = back_off P (without_front gs) (front_off P gs h)

-- ---- runs

if_runs : (t : Bool) (a b : List Run) → AreTexts a → AreTexts b → AreTexts (if t then a else b)
if_runs true a b h k = h
if_runs false a b h k = k

one_text : (c : ℕ) → IsClear c → IsClearText (encode_utf8 c)
one_text c h = (c ∷ [], (h, tt), append-nil (encode_utf8 c))

text_more : (text : List ℕ) (c : ℕ) → IsClearText text → IsClear c → IsClearText (text ++ encode_utf8 c)
text_more text c h k = (
  h.0 ++ c ∷ [],
  all_joined IsClear h.0 (c ∷ []) h.1 (k, tt),
  encodes-append h.0 (c ∷ []) ∙ ap (λ (l : List ℕ). l ++ encode_utf8_all (c ∷ [])) h.2 ∙ ap (λ (l : List ℕ). text ++ l) (append-nil (encode_utf8 c)),
)

from_texts : (first : Glyph) (text : List ℕ) (gs : List Glyph) → IsClearText text → AreClearGlyphs gs → AreTexts (runs_from first text gs)
unfolding runs_from
from_texts first text [] h k = (h, tt)
from_texts first text (g ∷ gs) h k =
    if_runs (is_same_run first g) (runs_from first (text ++ encode_utf8 g.c) gs) (run_with first.flags text ∷ runs_from g (encode_utf8 g.c) gs)
    (from_texts first (text ++ encode_utf8 g.c) gs (text_more text g.c h k.0) k.1) (h, from_texts g (encode_utf8 g.c) gs (one_text g.c k.0) k.1)

runs_texts : (gs : List Glyph) → AreClearGlyphs gs → AreTexts (runs_of gs)
runs_texts [] h = tt
runs_texts (g ∷ gs) h = from_texts g (encode_utf8 g.c) gs (one_text g.c h.0) h.1

-- ---- rows

lines_by : (t : Bool) (a b : List LineContent) → (t ≡ true → AreOwnLines a) → (t ≡ false → AreOwnLines b) → AreOwnLines (if t then a else b)
lines_by true a b h k = h refl
lines_by false a b h k = k refl

clear_of : (g : Glyph) → (g.c == 10) ≡ false → IsFineGlyph g → IsClearGlyph g
clear_of g e h = (h.scalar, clear_by (g.c == 10) (is_obeyed g.c) e h.fine)

row_is : (row : List Glyph) → AreClearGlyphs row → IsOwnLine (row_of row)
row_is row h = record { style = tt; runs = runs_texts (trimmed row) (trimmed_are IsClearGlyph row h) }

rows_are : (row gs : List Glyph) → AreClearGlyphs row → AreFine gs → AreOwnLines (rows_from row gs)
unfolding rows_from
rows_are row [] h k = (row_is row h, tt)
rows_are row (g ∷ gs) h k =
    lines_by (g.c == 10) (row_of row ∷ rows_from [] gs) (rows_from (row ++ g ∷ []) gs) (λ e. (row_is row h, rows_are [] gs tt k.1))
    (λ e. rows_are (row ++ g ∷ []) gs (all_joined IsClearGlyph row (g ∷ []) h (clear_of g e k.0, tt)) k.1)

rows_of_are : (gs : List Glyph) → AreFine gs → AreOwnLines (rows_of gs)
rows_of_are gs h = lines_by (length gs == 0) [] (rows_from [] gs) (λ e. tt) (λ e. rows_are [] gs tt h)

-- the rows of a leaf
pub leaf_is : (labels : List (List ℕ)) (text : List ℕ) → IsUtf8 text → AreOwnLines (leaf_rows labels text)
unfolding leaf_rows
leaf_is labels text utf8 = rows_of_are (trimmed (leaf_glyphs labels false text)) (trimmed_are IsFineGlyph (leaf_glyphs labels false text) (leaf_fine labels false text utf8))

-- the rows of a leaf of html
pub html_is : (text : List ℕ) → IsUtf8 text → AreOwnLines (html_lines text)
unfolding html_lines
html_is text utf8 = rows_of_are (trimmed (html_glyphs text)) (trimmed_are IsFineGlyph (html_glyphs text) (cut_fine false (html_cut text) text (html_chars text utf8)))

-- ---- cells

glyphs_by : (t : Bool) (a b : List Glyph) → (t ≡ true → AreClearGlyphs a) → (t ≡ false → AreClearGlyphs b) → AreClearGlyphs (if t then a else b)
glyphs_by true a b h k = h refl
glyphs_by false a b h k = k refl

spaced_are : (bold : Bool) (shown row gs : List Glyph) → AreClearGlyphs shown → AreClearGlyphs row → AreFine gs → AreClearGlyphs (spaced_from bold shown row gs)
unfolding spaced_from
spaced_are bold shown row [] s h k = all_joined IsClearGlyph shown (trimmed row) s (trimmed_are IsClearGlyph row h)
spaced_are bold shown row (g ∷ gs) s h k =
    glyphs_by (g.c == 10) (spaced_from bold ((shown ++ trimmed row) ++ space bold ∷ []) [] gs) (spaced_from bold shown (row ++ g ∷ []) gs)
    (λ e. spaced_are bold ((shown ++ trimmed row) ++ space bold ∷ []) [] gs
    (all_joined IsClearGlyph (shown ++ trimmed row) (space bold ∷ []) (all_joined IsClearGlyph shown (trimmed row) s (trimmed_are IsClearGlyph row h)) ((refl, refl), tt)) tt k.1)
    (λ e. spaced_are bold shown (row ++ g ∷ []) gs s (all_joined IsClearGlyph row (g ∷ []) h (clear_of g e k.0, tt)) k.1)

cell_is : (labels : List (List ℕ)) (bold : Bool) (text : List ℕ) → IsUtf8 text → AreTexts (cell_runs labels bold text)
unfolding cell_runs
cell_is labels bold text utf8 =
    let gs : List Glyph = trimmed (leaf_glyphs labels bold text) in
    runs_texts (spaced_from bold [] [] gs) (spaced_are bold [] [] gs tt tt (trimmed_are IsFineGlyph (leaf_glyphs labels bold text) (leaf_fine labels bold text utf8)))

cells_are : (labels : List (List ℕ)) (bold : Bool) (columns : ℕ) (row : List ℕ) → AllByRecursion IsOwnCell (cells labels bold columns row)
unfolding cells
cells_are labels bold zero row = tt
cells_are labels bold (suc columns) row = (record { style = refl; runs = cell_is labels bold (cell_text row) (lossy_utf8 _) }, cells_are labels bold columns (after_cell row))

-- ---- tables

body_rows : (labels : List (List ℕ)) (columns : ℕ) (lines : List Remaining) → AreOwnLines (map (row_said labels false columns) lines)
body_rows labels columns [] = tt
body_rows labels columns (line ∷ lines) = (cells_are labels false (shown_cells columns line.bytes) (tables.row_of line.bytes), body_rows labels columns lines)

body_is : (labels : List (List ℕ)) (columns : ℕ) (rule : List Alignment) (lines : List Remaining) → AreOwnLines (body labels columns rule lines)
body_is labels columns rule [] = tt
body_is labels columns rule (line ∷ lines) = (tt, body_rows labels columns (line ∷ lines))

-- the lines of a table
pub table_is : (labels : List (List ℕ)) (columns : ℕ) (lines : List Remaining) → AreOwnLines (table_lines labels columns lines)
unfolding table_lines
table_is labels columns [] = tt
table_is labels columns (head ∷ []) = tt
table_is labels columns (head ∷ delimiters ∷ lines) =
    let rule : List Alignment = alignments columns (tables.row_of delimiters.bytes) in
    (tt, (cells_are labels true (shown_cells columns head.bytes) (tables.row_of head.bytes), all_joined IsOwnLine (body labels columns rule lines) (table_rule rule ∷ []) (body_is labels columns rule lines) (tt, tt)))

-- ---- other leaves

spaces_are : (count : ℕ) → AreClear (spaces count)
unfolding spaces
spaces_are zero = tt
spaces_are (suc count) = ((refl, refl), spaces_are count)

if_clear : (t : Bool) (a b : List ℕ) → AreClear a → AreClear b → AreClear (if t then a else b)
if_clear true a b h k = h
if_clear false a b h k = k

expanded_are : (column : ℕ) (cs : List ℕ) → AreChars cs → AreClear (expanded column cs)
unfolding expanded
expanded_are column [] h = tt
expanded_are column (c ∷ cs) h =
    all_joined IsClear (expanded_char column c) (expanded (next_column column c) cs) (if_clear (c == 9) (spaces (4 - column % 4)) (shown_char c ∷ []) (spaces_are (4 - column % 4)) (shown_clear c h.0, tt)) (expanded_are (next_column column c) cs h.1)

code_clear : (column : ℕ) (line : Remaining) → IsClearText (code_text column line)
unfolding code_text
code_clear column line =
    let cs : List ℕ = expanded line.pending (chars (utf8_lossy line.bytes)) in (
      spaces column ++ spaces line.pending ++ cs,
      all_joined IsClear (spaces column ++ spaces line.pending) cs (all_joined IsClear (spaces column) (spaces line.pending) (spaces_are column) (spaces_are line.pending))
          (expanded_are line.pending (chars (utf8_lossy line.bytes)) (from_scalars (chars (utf8_lossy line.bytes)) (scalars-chars (utf8_lossy line.bytes) (lossy_utf8 line.bytes)))),
      refl,
    )

if_line : (t : Bool) (a b : LineContent) → IsOwnLine a → IsOwnLine b → IsOwnLine (if t then a else b)
if_line true a b h k = h
if_line false a b h k = k

-- the lines of code
pub code_is : (column : ℕ) (lines : List Remaining) → AreOwnLines (code_lines column lines)
unfolding code_lines
code_is column [] = tt
code_is column (line ∷ lines) =
    (if_line ((line.pending == 0) && (length line.bytes == 0)) _ _ (record { style = tt; runs = tt }) (record { style = tt; runs = (code_clear column line, tt) }), code_is column lines)

row_texts : (row : LineContent) → IsOwnLine row → AreTexts (row_runs row)
row_texts (normal row) h = h.runs
row_texts (table_row cells) h = tt
row_texts (table_rule rule) h = tt
row_texts horizontal_rule h = tt

-- rows in another style
pub restyled_is : (style : CompositeStyle) (rows : List LineContent) → IsPlainStyle style → AreOwnLines rows → AreOwnLines (restyled style style rows)
unfolding restyled
restyled_is style [] plain h = tt
restyled_is style (row ∷ rows) plain h = (record { style = plain; runs = row_texts row h.0 }, restyled_is style rows plain h.1)

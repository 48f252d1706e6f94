-- Characters of leaves, their runs and their rows: nothing that a terminal obeys.
use Rattle.std.proofs.Common.{◌≡◌, ℕ, zero, suc, Bool, true, false, not, ◌||◌, ◌&&◌, ◌==◌, List, [], ◌∷◌, ◌++◌, map, length, take, refl, ap, ◌∙◌, arith, append-nil, encode_utf8, if◌then◌else◌, is_some}
use Rattle.std.specs.Prelude.{encode_utf8_all}
use Rattle.std.specs.List.{list_all, AllByRecursion}
use Rattle.std.specs.Str.{NoCharPasses, NonePass}
use Rattle.std.proofs.lemmas.Bool.{and_parts}
use Rattle.std.proofs.lemmas.Bool.Decides.{nat_tests}
use Rattle.std.proofs.lemmas.Str.{encodes-append}
use Rattle.markdown_pieces.specs.Cut.{CutText, cut_text}
use Rattle.markdown_emphasis.specs.Flags.{flags_of}
use Rattle.markdown_html_text.specs.HtmlPieces.{html_cut}
use Rattle.markdown_inlines.specs.Inlines.{all_over, char_of, are_shown, left_of, shown_cut}
use Rattle.markdown_inlines.specs.Printable.{is_printable, is_shown, shown_char}
use Rattle.markdown_inlines.specs.Styled.{Shown}
use Rattle.markdown_inlines.proofs.PrintableLemmas.{shown_is, from_shown}
use Rattle.mad_md.specs.Flagged.{Run}
use Rattle.mad_md.specs.Lines.{LineContent}
use Rattle.markdown_lines.specs.Glyphs.{glyph_of, shown_in, leaf_glyphs, html_glyphs, is_edge, without_front, without_back, trimmed, space, spaced_from, is_same_run, run_with, runs_from, runs_of}
use Rattle.markdown_lines.specs.Leaf.{row_of, rows_from, rows_of, leaf_rows, cell_runs, html_lines}
use Rattle.markdown_lines.specs.declared.glyphs.Glyph.{Glyph}
use Rattle.markdown_lines.specs.Printed.{is_obeyed, IsPrintedRun, IsPrintedLine, ArePrinted}

-- ---- characters

printable_clean : (c : ℕ) → is_printable c ≡ true → is_obeyed c ≡ false
printable_clean c h = grind (arith, nat_tests)

-- no character is obeyed as it is shown
pub none_obeyed : (c : ℕ) → is_obeyed (shown_char c) ≡ false
none_obeyed c = printable_clean (shown_char c) (shown_is c)

-- where no character of two texts is obeyed, none is of both together
pub none_append : (xs ys : List ℕ) → NonePass is_obeyed xs → NonePass is_obeyed ys → NonePass is_obeyed (xs ++ ys)
none_append [] ys h k = k
none_append (x ∷ xs) ys h k = (h.0, none_append xs ys h.1 k)

-- a break, or nothing that is obeyed
abbrev is_fine : ℕ → Bool
is_fine c = (c == 10) || not (is_obeyed c)

abbrev IsFine : Glyph → Type 0
IsFine g = is_fine g.c ≡ true

abbrev IsClean : Glyph → Type 0
IsClean g = is_obeyed g.c ≡ false

fine_by : (newline : Bool) (c : ℕ) → (newline || is_printable c) ≡ true → (newline || not (is_obeyed c)) ≡ true
fine_by true c h = refl
fine_by false c h = ap not (printable_clean c h)

clean_by : (newline obeyed : Bool) → newline ≡ false → (newline || not obeyed) ≡ true → obeyed ≡ false
clean_by false false e h = refl
clean_by false true e h = absurd (no h)
  where
    no : false ≡ true → ⊥
    no e = cc
clean_by true obeyed e h = absurd (no e)
  where
    no : true ≡ false → ⊥
    no e = cc

clean_of : (g : Glyph) → (g.c == 10) ≡ false → IsFine g → IsClean g
clean_of g e h = clean_by (g.c == 10) (is_obeyed g.c) e h

fine_or_space : (t : Bool) (c : ℕ) → is_fine c ≡ true → is_fine (if t then 32 else c) ≡ true
fine_or_space true c h = refl
fine_or_space false c h = h

fine_in : (picture : Bool) (c : ℕ) → is_fine c ≡ true → is_fine (shown_in picture c) ≡ true
fine_in picture c h = fine_or_space (picture && (c == 10)) c h

glyphs_fine : (bold : Bool) (shown : List Shown) → are_shown shown ≡ true → AllByRecursion IsFine (map (glyph_of bold) shown)
glyphs_fine bold [] h = tt
glyphs_fine bold (s ∷ ss) h =
    let parts = and_parts (is_shown s.char) (list_all is_shown (map char_of ss)) h in
    (fine_in (is_some s.look.picture) s.char (fine_by (s.char == 10) s.char parts.0), glyphs_fine bold ss parts.1)

cut_fine : (bold : Bool) (cut : CutText) (text : List ℕ) → AllByRecursion IsFine (map (glyph_of bold) (shown_cut cut text))
cut_fine bold cut text = glyphs_fine bold (shown_cut cut text) (from_shown text 0 cut.pieces (flags_of (length cut.pieces) cut.pairs) (left_of cut.pairs cut.pieces) (all_over cut.pieces))

leaf_fine : (labels : List (List ℕ)) (bold : Bool) (text : List ℕ) → AllByRecursion IsFine (leaf_glyphs labels bold text)
leaf_fine labels bold text = cut_fine bold (cut_text labels text) text

html_fine : (text : List ℕ) → AllByRecursion IsFine (html_glyphs text)
html_fine text = cut_fine false (html_cut text) text

-- ---- some of the characters

if_glyphs : (P : Glyph → Type 0) (t : Bool) (a b : List Glyph) → AllByRecursion P a → AllByRecursion P b → AllByRecursion P (if t then a else b)
if_glyphs P true a b h k = h
if_glyphs P false a b h k = k

front_kept : (P : Glyph → Type 0) (gs : List Glyph) → AllByRecursion P gs → AllByRecursion P (without_front gs)
unfolding without_front
front_kept P [] h = tt
front_kept P (g ∷ gs) h = if_glyphs P (is_edge g) (without_front gs) (g ∷ gs) (front_kept P gs h.1) h

take_kept : (P : Glyph → Type 0) (n : ℕ) (gs : List Glyph) → AllByRecursion P gs → AllByRecursion P (take n gs)
take_kept P zero gs h = tt
take_kept P (suc n) [] h = tt
take_kept P (suc n) (g ∷ gs) h = (h.0, take_kept P n gs h.1)

back_kept : (P : Glyph → Type 0) (gs : List Glyph) → AllByRecursion P gs → AllByRecursion P (without_back gs)
unfolding without_back
back_kept P gs h = take_kept P _ gs h

trimmed_kept : (P : Glyph → Type 0) (gs : List Glyph) → AllByRecursion P gs → AllByRecursion P (trimmed gs)
trimmed_kept P gs h = back_kept P (without_front gs) (front_kept P gs h)

append_kept : (P : Glyph → Type 0) (xs ys : List Glyph) → AllByRecursion P xs → AllByRecursion P ys → AllByRecursion P (xs ++ ys)
append_kept P [] ys h k = k
append_kept P (x ∷ xs) ys h k = (h.0, append_kept P xs ys h.1 k)

-- ---- runs

text_more : (text : List ℕ) (c : ℕ) → NoCharPasses is_obeyed text → is_obeyed c ≡ false → NoCharPasses is_obeyed (text ++ encode_utf8 c)
text_more text c h k = (
  h.0 ++ c ∷ [],
  encodes-append h.0 (c ∷ []) ∙ ap (λ (l : List ℕ). l ++ encode_utf8_all (c ∷ [])) h.1 ∙ ap (λ (l : List ℕ). text ++ l) (append-nil (encode_utf8 c)),
  none_append h.0 (c ∷ []) h.2 (k, tt),
)

one_text : (c : ℕ) → is_obeyed c ≡ false → NoCharPasses is_obeyed (encode_utf8 c)
one_text c k = (c ∷ [], append-nil (encode_utf8 c), (k, tt))

if_runs : (t : Bool) (a b : List Run) → AllByRecursion IsPrintedRun a → AllByRecursion IsPrintedRun b → AllByRecursion IsPrintedRun (if t then a else b)
if_runs true a b h k = h
if_runs false a b h k = k

from_printed : (first : Glyph) (text : List ℕ) (gs : List Glyph) → NoCharPasses is_obeyed text → AllByRecursion IsClean gs → AllByRecursion IsPrintedRun (runs_from first text gs)
unfolding runs_from
from_printed first text [] h k = (h, tt)
from_printed first text (g ∷ gs) h k =
    if_runs (is_same_run first g) (runs_from first (text ++ encode_utf8 g.c) gs) (run_with first.flags text ∷ runs_from g (encode_utf8 g.c) gs)
    (from_printed first (text ++ encode_utf8 g.c) gs (text_more text g.c h k.0) k.1) (h, from_printed g (encode_utf8 g.c) gs (one_text g.c k.0) k.1)

clean_runs : (gs : List Glyph) → AllByRecursion IsClean gs → AllByRecursion IsPrintedRun (runs_of gs)
clean_runs [] h = tt
clean_runs (g ∷ gs) h = from_printed g (encode_utf8 g.c) gs (one_text g.c h.0) h.1

-- ---- rows

-- where there are no lines, no character is obeyed
pub nothing_printed : ArePrinted []
unfolding ArePrinted
nothing_printed = tt

-- where no character of a line and of others is obeyed, none is of all
pub cons_printed : (line : LineContent) (lines : List LineContent) → IsPrintedLine line → ArePrinted lines → ArePrinted (line ∷ lines)
unfolding ArePrinted
cons_printed line lines h k = (h, k)

-- where no character is obeyed in both cases, none is of what a condition chooses
pub if_printed : (t : Bool) (a b : List LineContent) → ArePrinted a → ArePrinted b → ArePrinted (if t then a else b)
if_printed true a b h k = h
if_printed false a b h k = k

printed_by : (t : Bool) (a b : List LineContent) → (t ≡ true → ArePrinted a) → (t ≡ false → ArePrinted b) → ArePrinted (if t then a else b)
printed_by true a b h k = h refl
printed_by false a b h k = k refl

row_printed : (row : List Glyph) → AllByRecursion IsClean row → IsPrintedLine (row_of row)
row_printed row h = clean_runs (trimmed row) (trimmed_kept IsClean row h)

rows_clean : (row gs : List Glyph) → AllByRecursion IsClean row → AllByRecursion IsFine gs → ArePrinted (rows_from row gs)
unfolding rows_from
rows_clean row [] h k = cons_printed (row_of row) [] (row_printed row h) nothing_printed
rows_clean row (g ∷ gs) h k =
    printed_by (g.c == 10) (row_of row ∷ rows_from [] gs) (rows_from (row ++ g ∷ []) gs)
    (λ e. cons_printed (row_of row) (rows_from [] gs) (row_printed row h) (rows_clean [] gs tt k.1))
    (λ e. rows_clean (row ++ g ∷ []) gs (append_kept IsClean row (g ∷ []) h (clean_of g e k.0, tt)) k.1)

-- where characters are fine, none of their rows is obeyed
fine_printed : (gs : List Glyph) → AllByRecursion IsFine gs → ArePrinted (rows_of (trimmed gs))
fine_printed gs h = if_printed (length (trimmed gs) == 0) [] (rows_from [] (trimmed gs)) nothing_printed (rows_clean [] (trimmed gs) tt (trimmed_kept IsFine gs h))

-- no character of the rows of html is obeyed
pub html_printed : (text : List ℕ) → ArePrinted (html_lines text)
unfolding html_lines
html_printed text = fine_printed (html_glyphs text) (html_fine text)

-- no character of a leaf's rows is obeyed
pub leaf_printed : (labels : List (List ℕ)) (text : List ℕ) → ArePrinted (leaf_rows labels text)
unfolding leaf_rows
leaf_printed labels text = fine_printed (leaf_glyphs labels false text) (leaf_fine labels false text)

-- ---- cells

clean_choice : (t : Bool) (a b : List Glyph) → (t ≡ true → AllByRecursion IsClean a) → (t ≡ false → AllByRecursion IsClean b) → AllByRecursion IsClean (if t then a else b)
clean_choice true a b h k = h refl
clean_choice false a b h k = k refl

spaced_clean : (bold : Bool) (shown row gs : List Glyph) → AllByRecursion IsClean shown → AllByRecursion IsClean row → AllByRecursion IsFine gs → AllByRecursion IsClean (spaced_from bold shown row gs)
unfolding spaced_from
spaced_clean bold shown row [] s h k = append_kept IsClean shown (trimmed row) s (trimmed_kept IsClean row h)
spaced_clean bold shown row (g ∷ gs) s h k =
    clean_choice (g.c == 10) (spaced_from bold ((shown ++ trimmed row) ++ space bold ∷ []) [] gs) (spaced_from bold shown (row ++ g ∷ []) gs)
    (λ e. spaced_clean bold ((shown ++ trimmed row) ++ space bold ∷ []) [] gs
    (append_kept IsClean (shown ++ trimmed row) (space bold ∷ []) (append_kept IsClean shown (trimmed row) s (trimmed_kept IsClean row h)) (refl, tt)) tt k.1)
    (λ e. spaced_clean bold shown (row ++ g ∷ []) gs s (append_kept IsClean row (g ∷ []) h (clean_of g e k.0, tt)) k.1)

-- no character of a cell's runs is obeyed
pub cell_printed : (labels : List (List ℕ)) (bold : Bool) (text : List ℕ) → AllByRecursion IsPrintedRun (cell_runs labels bold text)
unfolding cell_runs
cell_printed labels bold text =
    let gs : List Glyph = trimmed (leaf_glyphs labels bold text) in
    clean_runs (spaced_from bold [] [] gs) (spaced_clean bold [] [] gs tt tt (trimmed_kept IsFine (leaf_glyphs labels bold text) (leaf_fine labels bold text)))

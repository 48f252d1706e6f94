-- Rows of a text of which no row begins or ends with a blank.
use Rattle.std.proofs.Common.{◌≡◌, ℕ, zero, suc, ⊎_elim, ◌+◌, ◌-◌, ◌<◌, ◌≤◌, Bool, true, false, cond, eqb, not, ◌||◌, ◌&&◌, List, [], ◌∷◌, ◌++◌, map, reverse, length, take, drop, get_or, is_some, refl, sym, ap, subst, ◌∙◌, arith, append-nil, if◌then◌else◌}
use Rattle.std.specs.Prelude.{chars, encode_utf8, encode_utf8_all}
use Rattle.std.specs.List.{list_any, suffix_len, AllByRecursion}
use Rattle.std.specs.Str.{IsUtf8}
use Rattle.std.proofs.lemmas.Bool.{cases_lt, eqb-true, eq-eqb, ne_eqb}
use Rattle.std.proofs.lemmas.List.{get_or_past, get_or-drop, length-drop, length-append, take_all, map-append, take-append-drop, reverse-append}
use Rattle.std.proofs.lemmas.List.Folds.{list_any-append}
use Rattle.std.proofs.lemmas.List.Sums.{suffix_len_is}
use Rattle.std.proofs.lemmas.Str.{encodes-chars, encode_ascii, chars-append, IsUtf8-take}
use Rattle.std.proofs.StrCases.{chars_of_empty}
use Rattle.memchr.specs.Find.{Nowhere, Passes, is_byte}
use Rattle.mad_md.specs.Lines.{LineContent}
use Rattle.markdown_inlines.specs.Styled.{Shown, shown_with, spelled, AreRuns}
use Rattle.markdown_inlines.specs.declared.looks.Look.{Look}
use Rattle.markdown_inlines.specs.declared.styled.TextRun.{TextRun}
use Rattle.markdown_lines.specs.Glyphs.{shown_in, glyph_of, is_edge, without_front, without_back, trimmed}
use Rattle.markdown_lines.specs.Leaf.{row_of, rows_from, rows_of}
use Rattle.markdown_lines.specs.LinkNumbers.{numbers_of, row_numbers, rows_numbers_from, rows_numbers}
use Rattle.markdown_lines.specs.CutRows.{is_blank, is_pictured, AreUnpictured, IsAlone, IsNeat, in_front, cut_rows, whole_row, cut_numbers}
use Rattle.markdown_lines.specs.declared.glyphs.Glyph.{Glyph}
use Rattle.markdown_lines.proofs.GlyphLemmas.{no_glyph, border_of}
use Rattle.markdown_lines.proofs.CutLemmas.{not_true, apart, all_in_front, front_behind, front_none, get_or_behind, ascii_first, ascii_second, first_no}

-- ---- rows, and rows without trimming

rows_cut : (row gs : List Glyph) → rows_from row gs ≡ map row_of (all_in_front row (cut_rows gs))
unfolding rows_from cut_rows
rows_cut row [] = ap (λ (l : List Glyph). row_of l ∷ []) (sym (append-nil row))
rows_cut row (g ∷ gs) = either (eqb g.c 10) row g gs (rows_cut [] gs) (rows_cut (row ++ g ∷ []) gs)
  where
    either : (t : Bool) (row : List Glyph) (g : Glyph) (gs : List Glyph) → rows_from [] gs ≡ map row_of (all_in_front [] (cut_rows gs)) → rows_from (row ++ g ∷ []) gs ≡ map row_of (all_in_front (row ++ g ∷ []) (cut_rows gs))
        → (if t then row_of row ∷ rows_from [] gs else rows_from (row ++ g ∷ []) gs) ≡ map row_of (all_in_front row (if t then [] ∷ cut_rows gs else in_front g (cut_rows gs)))
    either true row g gs a b =
        ap (λ (l : List Glyph). row_of l ∷ rows_from [] gs) (sym (append-nil row))
        ∙ ap (λ (ls : List LineContent). row_of (row ++ []) ∷ ls) (a ∙ ap (map row_of) (front_none (cut_rows gs)))
    either false row g gs a b = b ∙ ap (map row_of) (front_behind row g (cut_rows gs))

-- the numbers of rows that are trimmed
abbrev pub trimmed_numbers : List (List Glyph) → List ℕ
trimmed_numbers [] = []
trimmed_numbers (row ∷ rows) = row_numbers row ++ trimmed_numbers rows

numbers_cut : (row gs : List Glyph) → rows_numbers_from row gs ≡ trimmed_numbers (all_in_front row (cut_rows gs))
unfolding rows_numbers_from cut_rows
numbers_cut row [] = sym (append-nil (row_numbers row)) ∙ ap (λ (l : List Glyph). row_numbers l ++ []) (sym (append-nil row))
numbers_cut row (g ∷ gs) = either (eqb g.c 10) row g gs (numbers_cut [] gs) (numbers_cut (row ++ g ∷ []) gs)
  where
    either : (t : Bool) (row : List Glyph) (g : Glyph) (gs : List Glyph) → rows_numbers_from [] gs ≡ trimmed_numbers (all_in_front [] (cut_rows gs)) → rows_numbers_from (row ++ g ∷ []) gs ≡ trimmed_numbers (all_in_front (row ++ g ∷ []) (cut_rows gs))
        → (if t then row_numbers row ++ rows_numbers_from [] gs else rows_numbers_from (row ++ g ∷ []) gs) ≡ trimmed_numbers (all_in_front row (if t then [] ∷ cut_rows gs else in_front g (cut_rows gs)))
    either true row g gs a b =
        ap (λ (l : List Glyph). row_numbers l ++ rows_numbers_from [] gs) (sym (append-nil row))
        ∙ ap (λ (ns : List ℕ). row_numbers (row ++ []) ++ ns) (a ∙ ap trimmed_numbers (front_none (cut_rows gs)))
    either false row g gs a b = b ∙ ap trimmed_numbers (front_behind row g (cut_rows gs))

-- nothing of a row is trimmed
abbrev pub IsStable : List Glyph → Type 0
IsStable row = trimmed row ≡ row

stable_rows : (rows : List (List Glyph)) → AllByRecursion IsStable rows → map row_of rows ≡ map whole_row rows
stable_rows [] h = refl
stable_rows (row ∷ rows) h = ap (λ (l : List Glyph). whole_row l ∷ map row_of rows) h.0 ∙ ap (λ (ls : List LineContent). whole_row row ∷ ls) (stable_rows rows h.1)

stable_numbers : (rows : List (List Glyph)) → AllByRecursion IsStable rows → trimmed_numbers rows ≡ cut_numbers rows
unfolding cut_numbers
stable_numbers [] h = refl
stable_numbers (row ∷ rows) h = ap (λ (l : List Glyph). numbers_of l ++ trimmed_numbers rows) h.0 ∙ ap (λ (ns : List ℕ). numbers_of row ++ ns) (stable_numbers rows h.1)

-- ---- characters without blanks beside breaks

-- behind this character, neither these nor a last one are blanks beside a break
abbrev pub IsNeatFrom : ℕ → List ℕ → Type 0
IsNeatFrom p [] = is_blank p ≡ false
IsNeatFrom p (c ∷ cs) = (eqb p 10 ≡ true → is_blank c ≡ false) × (eqb c 10 ≡ true → is_blank p ≡ false) × IsNeatFrom c cs

-- the last of a character and those of a row is no blank
abbrev pub Ends : ℕ → List Glyph → Type 0
Ends p [] = is_blank p ≡ false
Ends p (g ∷ gs) = Ends g.c gs

-- behind a break a row begins with no blank
abbrev pub Begins : ℕ → List Glyph → Type 0
Begins p [] = Unit {0}
Begins p (g ∷ gs) = eqb p 10 ≡ true → is_blank g.c ≡ false

abbrev pub AreNeat : ℕ → List (List Glyph) → Type 0
AreNeat p [] = Unit {0}
AreNeat p (row ∷ rows) = Ends p row × Begins p row × AllByRecursion IsStable rows

blank_break : (a b : Bool) → b ≡ true → (a || b) ≡ true
blank_break true b h = refl
blank_break false b h = h

no_edge : (a b n : Bool) → (a || b) ≡ false → (b || (a && n)) ≡ false
no_edge true b n h = absurd (apart h)
no_edge false true n h = absurd (apart h)
no_edge false false n h = refl

last_edge : (g : Glyph) (gs : List Glyph) → Ends g.c gs → is_edge (get_or (g ∷ gs) (length gs) no_glyph) ≡ false
last_edge g [] h = no_edge (eqb g.c 32) (eqb g.c 10) (not g.flags.code) h
last_edge g (r ∷ gs) h = last_edge r gs h

whole_trimmed : (g : Glyph) (gs : List Glyph) → is_edge g ≡ false → is_edge (get_or (g ∷ gs) (length gs) no_glyph) ≡ false → trimmed (g ∷ gs) ≡ g ∷ gs
unfolding without_front without_back
whole_trimmed g gs first last =
    let all : List Glyph = g ∷ gs in
    let long : length all ≡ suc (length gs) = refl in
    let at : get_or all (length all - 1) no_glyph ≡ get_or all (length gs) no_glyph = ap (λ n. get_or all n no_glyph) (omega (arith, long)) in
    let none : suffix_len is_edge all ≡ length all - length all =
    suffix_len_is is_edge all (length all) no_glyph (omega arith) (λ k from to. absurd (omega (arith, from, to))) (λ more. ap is_edge at ∙ last) in
    let same : length all - suffix_len is_edge all ≡ length all = omega (arith, none) in
    ap without_back (ap (λ t. cond t (without_front gs) all) first) ∙ ap (λ n. take n all) same ∙ take_all (length all) all (omega arith)

row_stable : (p : ℕ) (row : List Glyph) → eqb p 10 ≡ true → Ends p row → Begins p row → trimmed row ≡ row
row_stable p [] e ends begins = absurd (apart (sym (blank_break (eqb p 32) (eqb p 10) e) ∙ ends))
row_stable p (g ∷ gs) e ends begins = whole_trimmed g gs (no_edge (eqb g.c 32) (eqb g.c 10) (not g.flags.code) (begins e)) (last_edge g gs ends)

all_stable : (p : ℕ) (rows : List (List Glyph)) → eqb p 10 ≡ true → AreNeat p rows → AllByRecursion IsStable rows
all_stable p [] e h = tt
all_stable p (row ∷ rows) e h = (row_stable p row e h.0 h.1, h.2)

-- the character of a glyph
abbrev pub char_of : Glyph → ℕ
char_of g = g.c

front_neat : (p : ℕ) (g : Glyph) (rows : List (List Glyph)) → (eqb p 10 ≡ true → is_blank g.c ≡ false) → AreNeat g.c rows → AreNeat p (in_front g rows)
front_neat p g [] first h = tt
front_neat p g (row ∷ rows) first h = (h.0, first, h.2)

neat_by : (t : Bool) (p : ℕ) (g : Glyph) (rows : List (List Glyph)) → eqb g.c 10 ≡ t → (eqb p 10 ≡ true → is_blank g.c ≡ false) → (eqb g.c 10 ≡ true → is_blank p ≡ false) → AreNeat g.c rows
    → AreNeat p (if t then [] ∷ rows else in_front g rows)
neat_by true p g rows e first last h = (last e, tt, all_stable g.c rows e h)
neat_by false p g rows e first last h = front_neat p g rows first h

rows_neat : (p : ℕ) (gs : List Glyph) → IsNeatFrom p (map char_of gs) → AreNeat p (cut_rows gs)
unfolding cut_rows
rows_neat p [] h = (h, tt, tt)
rows_neat p (g ∷ gs) h = neat_by (eqb g.c 10) p g (cut_rows gs) refl h.0 h.1 (rows_neat g.c gs h.2)

ends_of : (p : ℕ) (gs : List Glyph) → IsNeatFrom p (map char_of gs) → Ends p gs
ends_of p [] h = h
ends_of p (g ∷ gs) h = ends_of g.c gs h.2

some_glyphs : (g : Glyph) (gs : List Glyph) → eqb (length (g ∷ gs)) 0 ≡ false
some_glyphs g gs = ne_eqb (length (g ∷ gs)) 0 (λ e. absurd (omega (arith, e)))

-- neat characters are trimmed nowhere
pub neat_trimmed : (gs : List Glyph) → IsNeatFrom 10 (map char_of gs) → trimmed gs ≡ gs
neat_trimmed [] h = absurd (apart h)
neat_trimmed (g ∷ gs) h = whole_trimmed g gs (no_edge (eqb g.c 32) (eqb g.c 10) (not g.flags.code) (h.0 refl)) (last_edge g gs (ends_of g.c gs h.2))

rows_all : (gs : List Glyph) → IsNeatFrom 10 (map char_of gs) → rows_of gs ≡ map whole_row (cut_rows gs)
rows_all [] h = absurd (apart h)
rows_all (g ∷ gs) h =
    ap (λ t. cond t [] (rows_from [] (g ∷ gs))) (some_glyphs g gs) ∙ rows_cut [] (g ∷ gs) ∙ ap (map row_of) (front_none (cut_rows (g ∷ gs)))
    ∙ stable_rows (cut_rows (g ∷ gs)) (all_stable 10 (cut_rows (g ∷ gs)) refl (rows_neat 10 (g ∷ gs) h))

numbers_all : (gs : List Glyph) → IsNeatFrom 10 (map char_of gs) → rows_numbers gs ≡ cut_numbers (cut_rows gs)
numbers_all [] h = absurd (apart h)
numbers_all (g ∷ gs) h =
    ap (λ t. cond t [] (rows_numbers_from [] (g ∷ gs))) (some_glyphs g gs) ∙ numbers_cut [] (g ∷ gs) ∙ ap trimmed_numbers (front_none (cut_rows (g ∷ gs)))
    ∙ stable_numbers (cut_rows (g ∷ gs)) (all_stable 10 (cut_rows (g ∷ gs)) refl (rows_neat 10 (g ∷ gs) h))

-- ---- from bytes

-- no blank is before a break
abbrev pub Before : List ℕ → Type 0
Before text = (k : ℕ) → eqb (get_or text (k + 1) 0) 10 ≡ true → is_blank (get_or text k 0) ≡ false

-- nor behind it
abbrev pub Behind : List ℕ → Type 0
Behind text = (k : ℕ) → eqb (get_or text k 0) 10 ≡ true → is_blank (get_or text (k + 1) 0) ≡ false

rest_before : (c : ℕ) (cs : List ℕ) → Before (encode_utf8_all (c ∷ cs)) → Before (encode_utf8_all cs)
rest_before c cs h k e =
    let n : ℕ = length (encode_utf8 c) in
    let swap : n + k + 1 ≡ n + (k + 1) = omega arith in
    let next : get_or (encode_utf8_all (c ∷ cs)) (n + k + 1) 0 ≡ get_or (encode_utf8_all cs) (k + 1) 0 =
    ap (λ (m : ℕ). get_or (encode_utf8_all (c ∷ cs)) m 0) swap ∙ get_or_behind (encode_utf8 c) (encode_utf8_all cs) (k + 1) in
    ap is_blank (sym (get_or_behind (encode_utf8 c) (encode_utf8_all cs) k)) ∙ h (n + k) (ap (λ b. eqb b 10) next ∙ e)

rest_behind : (c : ℕ) (cs : List ℕ) → Behind (encode_utf8_all (c ∷ cs)) → Behind (encode_utf8_all cs)
rest_behind c cs h k e =
    let n : ℕ = length (encode_utf8 c) in
    let swap : n + k + 1 ≡ n + (k + 1) = omega arith in
    let next : get_or (encode_utf8_all (c ∷ cs)) (n + k + 1) 0 ≡ get_or (encode_utf8_all cs) (k + 1) 0 =
    ap (λ (m : ℕ). get_or (encode_utf8_all (c ∷ cs)) m 0) swap ∙ get_or_behind (encode_utf8 c) (encode_utf8_all cs) (k + 1) in
    ap is_blank (sym next) ∙ h (n + k) (ap (λ b. eqb b 10) (get_or_behind (encode_utf8 c) (encode_utf8_all cs) k) ∙ e)

either_no : (a b : Bool) → a ≡ false → b ≡ false → (a || b) ≡ false
either_no a b h k = ap (λ x. x || b) h ∙ ap (λ x. false || x) k

no_first : (a b : Bool) → (a || b) ≡ false → a ≡ false
no_first true b h = absurd (apart h)
no_first false b h = refl

no_second : (a b : Bool) → (a || b) ≡ false → b ≡ false
no_second true b h = absurd (apart h)
no_second false true h = absurd (apart h)
no_second false false h = refl

-- a character whose first byte is no blank is none
first_blank : (c : ℕ) (cs : List ℕ) → is_blank (get_or (encode_utf8_all (c ∷ cs)) 0 0) ≡ false → is_blank c ≡ false
first_blank c cs h =
    let b : ℕ = get_or (encode_utf8_all (c ∷ cs)) 0 0 in
    either_no (eqb c 32) (eqb c 10) (first_no c 32 cs (omega arith) (no_first (eqb b 32) (eqb b 10) h)) (first_no c 10 cs (omega arith) (no_second (eqb b 32) (eqb b 10) h))

-- where a blank would be one byte, no blank is before a break
before_no : (c d : ℕ) (ds : List ℕ) (b : ℕ) → b < 128 → is_blank b ≡ true → Before (encode_utf8_all (c ∷ d ∷ ds)) → eqb d 10 ≡ true → eqb c b ≡ false
before_no c d ds b low blank h e =
    let ten : 10 < 128 = omega arith in
    not_true (eqb c b)
    (λ is. apart (sym (ap is_blank (ascii_first c b (d ∷ ds) is low) ∙ blank) ∙ h 0 (ap (λ x. eqb x 10) (ascii_second c b (d ∷ ds) is low ∙ ascii_first d 10 ds e ten))))

neat_from : (c : ℕ) (cs : List ℕ) → Before (encode_utf8_all (c ∷ cs)) → Behind (encode_utf8_all (c ∷ cs)) → is_blank (get_or (c ∷ cs) (length cs) 0) ≡ false → IsNeatFrom c cs
neat_from c [] before behind last = last
neat_from c (d ∷ ds) before behind last = (
  λ e. first_blank d ds (ap is_blank (sym (ascii_second c 10 (d ∷ ds) e (omega arith))) ∙ behind 0 (ap (λ x. eqb x 10) (ascii_first c 10 (d ∷ ds) e (omega arith)))),
  λ e. either_no (eqb c 32) (eqb c 10) (before_no c d ds 32 (omega arith) refl before e) (before_no c d ds 10 (omega arith) refl before e),
  neat_from d ds (rest_before c (d ∷ ds) before) (rest_behind c (d ∷ ds) behind) last,
)

some_bytes : (d : ℕ) (bs : List ℕ) → 0 < d → get_or bs (length bs - 1) 0 ≡ d → 0 < length bs
some_bytes d [] low e = absurd (omega (arith, e, low))
some_bytes d (b ∷ bs) low e = omega arith

last_byte : (d c : ℕ) (cs : List ℕ) → 0 < d → d < 128 → get_or (c ∷ cs) (length cs) 0 ≡ d → get_or (encode_utf8_all (c ∷ cs)) (length (encode_utf8_all (c ∷ cs)) - 1) 0 ≡ d
last_byte d c [] some low e = ap (λ (bs : List ℕ). get_or (bs ++ []) (length (bs ++ []) - 1) 0) (ap encode_utf8 e ∙ encode_ascii d low)
last_byte d c (x ∷ cs) some low e =
    let rest : List ℕ = encode_utf8_all (x ∷ cs) in
    let here : get_or rest (length rest - 1) 0 ≡ d = last_byte d x cs some low e in
    let more : 0 < length rest = some_bytes d rest some here in
    ap (λ n. get_or (encode_utf8 c ++ rest) n 0) (omega (arith, length-append (encode_utf8 c) rest, more)) ∙ get_or_behind (encode_utf8 c) rest (length rest - 1) ∙ here

last_no : (d c : ℕ) (cs : List ℕ) → 0 < d → d < 128 → eqb (get_or (encode_utf8_all (c ∷ cs)) (length (encode_utf8_all (c ∷ cs)) - 1) 0) d ≡ false → eqb (get_or (c ∷ cs) (length cs) 0) d ≡ false
last_no d c cs some low h =
    not_true (eqb (get_or (c ∷ cs) (length cs) 0) d)
    (λ e. apart (sym (ap (λ b. eqb b d) (last_byte d c cs some low (eqb-true _ _ e)) ∙ eq-eqb d d refl) ∙ h))

less : (k : ℕ) → k ≡ k + 1 - 1
less k = omega arith

pub neat_chars : (cs : List ℕ) → IsNeat (encode_utf8_all cs) → IsNeatFrom 10 cs
neat_chars [] h = absurd (omega (arith, h.some))
neat_chars (c ∷ cs) h =
    let text : List ℕ = encode_utf8_all (c ∷ cs) in
    let first : is_blank c ≡ false = first_blank c cs h.first in
    let b : ℕ = get_or text (length text - 1) 0 in
    let last : is_blank (get_or (c ∷ cs) (length cs) 0) ≡ false =
    either_no _ _ (last_no 32 c cs (omega arith) (omega arith) (no_first (eqb b 32) (eqb b 10) h.last)) (last_no 10 c cs (omega arith) (omega arith) (no_second (eqb b 32) (eqb b 10) h.last)) in
    let before : Before text = λ k e. ap (λ n. is_blank (get_or text n 0)) (less k) ∙ (h.beside (k + 1) e).0 in
    (λ e. first, λ e. absurd (apart (sym e ∙ no_second (eqb c 32) (eqb c 10) first)), neat_from c cs before (λ k e. (h.beside k e).1) last)

-- ---- the characters of runs

look_chars : (bold : Bool) (look : Look) (cs : List ℕ) → is_some look.picture ≡ false → map char_of (map (glyph_of bold) (map (shown_with look) cs)) ≡ cs
look_chars bold look [] h = refl
look_chars bold look (c ∷ cs) h =
    ap (λ (t : Bool). shown_in t c ∷ map char_of (map (glyph_of bold) (map (shown_with look) cs))) h ∙ ap (λ (l : List ℕ). c ∷ l) (look_chars bold look cs h)

pub turned_unpictured : (rs : List TextRun) → AreUnpictured rs → AreUnpictured (reverse rs)
turned_unpictured [] h = refl
turned_unpictured (r ∷ rs) h =
    ap (list_any is_pictured) (reverse-append (r ∷ []) rs) ∙ list_any-append is_pictured (reverse rs) (r ∷ [])
    ∙ either_no (list_any is_pictured (reverse rs)) (is_pictured r || false) (turned_unpictured rs (no_second (is_pictured r) (list_any is_pictured rs) h))
    (either_no (is_pictured r) false (no_first (is_pictured r) (list_any is_pictured rs) h) refl)

-- what a test says that finds no picture
pub none_pictured : (runs seen : List TextRun) (t : Bool) → t ≡ list_any is_pictured seen → t ≡ false → seen ≡ runs → AreUnpictured runs
none_pictured runs seen t e f is = ap (list_any is_pictured) (sym is) ∙ sym e ∙ f

-- the characters of runs spell the text
pub spelled_chars : (bold : Bool) (rs : List TextRun) (text : List ℕ) → IsUtf8 text → AreRuns rs text → AreUnpictured rs → map char_of (map (glyph_of bold) (spelled rs text)) ≡ chars text
unfolding spelled
spelled_chars bold [] text utf8 h plain = sym (chars_of_empty text h)
spelled_chars bold (r ∷ rs) text utf8 h plain =
    let front : IsUtf8 (take r.start text) = IsUtf8-take text r.start utf8 (border_of rs r text h) in
    let before : List Shown = spelled rs (take r.start text) in
    let here : List Shown = map (shown_with r.look) (chars (drop r.start text)) in
    ap (map char_of) (map-append (glyph_of bold) before here) ∙ map-append char_of (map (glyph_of bold) before) (map (glyph_of bold) here)
    ∙ ap (λ (cs : List ℕ). cs ++ map char_of (map (glyph_of bold) here)) (spelled_chars bold rs (take r.start text) front h.3 (no_second (is_pictured r) (list_any is_pictured rs) plain))
    ∙ ap (λ (cs : List ℕ). chars (take r.start text) ++ cs) (look_chars bold r.look (chars (drop r.start text)) (no_first (is_pictured r) (list_any is_pictured rs) plain))
    ∙ sym (chars-append (take r.start text) (drop r.start text) front) ∙ ap chars (take-append-drop r.start text)

-- so those of a neat text are neat
pub neat_glyphs : (bold : Bool) (rs : List TextRun) (text : List ℕ) → IsUtf8 text → AreRuns rs text → AreUnpictured rs → IsNeat text → IsNeatFrom 10 (map char_of (map (glyph_of bold) (spelled rs text)))
neat_glyphs bold rs text utf8 are plain neat =
    subst (IsNeatFrom 10) (sym (spelled_chars bold rs text utf8 are plain)) (neat_chars (chars text) (subst IsNeat (sym (encodes-chars text utf8)) neat))

-- the rows of a neat text without pictures are those that breaks cut
pub neat_rows : (runs : List TextRun) (text : List ℕ) → IsUtf8 text → AreRuns (reverse runs) text → AreUnpictured runs → IsNeat text
    → rows_of (trimmed (map (glyph_of false) (spelled (reverse runs) text))) ≡ map whole_row (cut_rows (map (glyph_of false) (spelled (reverse runs) text)))
neat_rows runs text utf8 are plain neat =
    let gs : List Glyph = map (glyph_of false) (spelled (reverse runs) text) in
    let h : IsNeatFrom 10 (map char_of gs) = neat_glyphs false (reverse runs) text utf8 are (turned_unpictured runs plain) neat in
    ap rows_of (neat_trimmed gs h) ∙ rows_all gs h

-- so are the numbers of its links
pub neat_numbers : (runs : List TextRun) (text : List ℕ) → IsUtf8 text → AreRuns (reverse runs) text → AreUnpictured runs → IsNeat text
    → rows_numbers (trimmed (map (glyph_of false) (spelled (reverse runs) text))) ≡ cut_numbers (cut_rows (map (glyph_of false) (spelled (reverse runs) text)))
neat_numbers runs text utf8 are plain neat =
    let gs : List Glyph = map (glyph_of false) (spelled (reverse runs) text) in
    let h : IsNeatFrom 10 (map char_of gs) = neat_glyphs false (reverse runs) text utf8 are (turned_unpictured runs plain) neat in
    ap rows_numbers (neat_trimmed gs h) ∙ numbers_all gs h

-- ---- as a search finds it

some_length : (n : ℕ) (t : Bool) → t ≡ eqb n 0 → t ≡ false → 0 < n
some_length zero t e f = absurd (apart (sym e ∙ f))
some_length (suc n) t e f = omega arith

drop_at : (text : List ℕ) (from k : ℕ) → from ≤ k → get_or (drop from text) (k - from) 0 ≡ get_or text k 0
drop_at text from k past = get_or-drop from text (k - from) 0 ∙ ap (λ n. get_or text n 0) (omega (arith, past))

beside_past : (text : List ℕ) (from skip k : ℕ) → from ≤ k → Nowhere (Passes (is_byte 10) (drop from text)) 0 skip → IsAlone text (from + skip) → k < from + (skip + 1) → eqb (get_or text k 0) 10 ≡ true → IsAlone text k
beside_past text from skip k past none here less e =
    ⊎_elim (λ (few : k - from < skip). absurd (none (k - from) (omega arith) few (ap (λ b. eqb b 10) (drop_at text from k past) ∙ e)))
    (λ (over : skip ≤ k - from). let at : from + skip ≡ k = omega (arith, past, over, less) in subst (IsAlone text) at here) (cases_lt (k - from) skip)

-- one more break is beside no blank
pub beside_more : (text : List ℕ) (from skip : ℕ) → Nowhere (Passes (is_byte 10) (drop from text)) 0 skip → IsAlone text (from + skip) → ((k : ℕ) → k < from → eqb (get_or text k 0) 10 ≡ true → IsAlone text k)
    → (k : ℕ) → k < from + (skip + 1) → eqb (get_or text k 0) 10 ≡ true → IsAlone text k
beside_more text from skip none here held k less e =
    ⊎_elim (λ (low : k < from). held k low e) (λ (past : from ≤ k). beside_past text from skip k past none here less e) (cases_lt k from)

none_past : (text : List ℕ) (from k : ℕ) → from ≤ k → Nowhere (Passes (is_byte 10) (drop from text)) 0 (length (drop from text)) → eqb (get_or text k 0) 10 ≡ true → ⊥
none_past text from k past none e =
    ⊎_elim (λ (few : k - from < length (drop from text)). none (k - from) (omega arith) few (ap (λ b. eqb b 10) (drop_at text from k past) ∙ e))
    (λ (over : length (drop from text) ≤ k - from). apart (sym e ∙ ap (λ b. eqb b 10) (get_or_past text k 0 (omega (arith, past, over, length-drop from text))))) (cases_lt (k - from) (length (drop from text)))

-- where no break is left, the text is neat
pub neat_is : (text : List ℕ) (from : ℕ) (t : Bool) → t ≡ eqb (length text) 0 → t ≡ false → is_blank (get_or text 0 0) ≡ false → is_blank (get_or text (length text - 1) 0) ≡ false
    → Nowhere (Passes (is_byte 10) (drop from text)) 0 (length (drop from text)) → ((k : ℕ) → k < from → eqb (get_or text k 0) 10 ≡ true → IsAlone text k) → IsNeat text
neat_is text from t is some first last none held = record {
  some = some_length (length text) t is some;
  first = first;
  last = last;
  beside = λ k e. ⊎_elim (λ (low : k < from). held k low e) (λ (past : from ≤ k). absurd (none_past text from k past none e)) (cases_lt k from);
}

-- The runs of a leaf belong to the links of their characters.
use Rattle.std.proofs.Common.{◌≡◌, ℕ, zero, suc, ◌+◌, ◌-◌, ◌<◌, ◌≤◌, Bool, true, false, not, ◌&&◌, ◌||◌, ◌==◌, List, [], ◌∷◌, ◌++◌, map, length, take, get_or, Option, Some, None, is_some, refl, sym, ap, subst, ◌∙◌, arith, append_assoc, append-nil, encode_utf8, if◌then◌else◌}
use Rattle.std.specs.List.{AllByRecursion, flat_map, suffix_len}
use Rattle.std.proofs.lemmas.Bool.{and_parts, eqb-true}
use Rattle.std.proofs.lemmas.List.{map-append, take_more, take_all, nil_from_length}
use Rattle.std.proofs.lemmas.List.Concat.{flat_map-append}
use Rattle.std.proofs.lemmas.List.Elements.{filter-append}
use Rattle.std.proofs.lemmas.List.Sums.{suffix_len-take_yes, suffix_len-take_no}
use Rattle.std.proofs.lemmas.Str.{encode_ascii}
use Rattle.markdown_html_text.specs.HtmlPieces.{html_cut, html_pieces}
use Rattle.markdown_inlines.specs.Inlines.{leaf_text, leaf_links, links_from, shown_cut}
use Rattle.markdown_inlines.specs.Looks.{is_same_number}
use Rattle.markdown_inlines.specs.Styled.{Shown}
use Rattle.markdown_lines.specs.Glyphs.{glyph_of, leaf_glyphs, html_glyphs, is_edge, without_front, without_back, trimmed, space, spaced_from, is_same_flags, is_same_run, run_with, runs_from, runs_of}
use Rattle.markdown_lines.specs.Leaf.{row_of, rows_from, leaf_rows, cell_runs, html_lines}
use Rattle.markdown_lines.specs.LinkNumbers.{one_number, numbers_from, numbers_of, row_numbers, rows_numbers_from, leaf_numbers, cell_numbers, html_numbers}
use Rattle.markdown_lines.specs.declared.glyphs.Glyph.{Glyph}
use Rattle.markdown_lines.proofs.GlyphLemmas.{no_glyph}
use Rattle.markdown_lines.proofs.NumberLemmas.{trimmed_kept, append_kept}
use Rattle.markdown_reader.specs.LeafLinks.{LinkByte, bytes_of, numbered_bytes, bytes_in, char_bytes, seen, RunsHaveTheirLinks, CellsHaveTheirLinks, HtmlHasItsLinks}
use Rattle.mad_link_marks.specs.LinkMarks.{run_texts, line_texts, link_texts}
use Rattle.markdown_reader.proofs.LinkFitLemmas.{IsFit, leaf_fit, html_fit, row_fits, spaced_fit}

-- ---- characters

abbrev glyph_bytes : Glyph → List LinkByte
glyph_bytes g = bytes_in g.link (encode_utf8 g.c)

seen_append : (xs ys : List LinkByte) → seen (xs ++ ys) ≡ seen xs ++ seen ys
seen_append xs ys = filter-append (λ (b : LinkByte). not (b.byte == 10) && not (b.byte == 32)) xs ys

edge_link : (link : Option ℕ) (c : ℕ) → (encode_utf8 c ≡ c ∷ []) → (not (c == 10) && not (c == 32)) ≡ false → seen (bytes_in link (encode_utf8 c)) ≡ []
edge_link None c one e = refl
edge_link (Some n) c one e = ap (λ (bs : List ℕ). seen (bytes_of n bs)) one ∙ ap (λ t. if t then record { byte = c; link = n } ∷ [] else []) e

newline_none : (link : Option ℕ) (c : ℕ) → (c == 10) ≡ true → seen (bytes_in link (encode_utf8 c)) ≡ []
newline_none link c e =
    let same : c ≡ 10 = eqb-true c 10 e in
    ap (λ d. seen (bytes_in link (encode_utf8 d))) same ∙ edge_link link 10 (encode_ascii 10 (omega arith)) refl

blank_none : (link : Option ℕ) (c : ℕ) → (c == 32) ≡ true → seen (bytes_in link (encode_utf8 c)) ≡ []
blank_none link c e =
    let same : c ≡ 32 = eqb-true c 32 e in
    ap (λ d. seen (bytes_in link (encode_utf8 d))) same ∙ edge_link link 32 (encode_ascii 32 (omega arith)) refl

edge_by : (link : Option ℕ) (c : ℕ) (code newline blank : Bool) → (c == 10) ≡ newline → (c == 32) ≡ blank → (newline || (blank && not code)) ≡ true → seen (bytes_in link (encode_utf8 c)) ≡ []
edge_by link c code true blank e f h = newline_none link c e
edge_by link c code false true e f h = blank_none link c f
edge_by link c code false false e f h = absurd (no h)
  where
    no : false ≡ true → ⊥
    no e = cc

-- nothing is seen of a character that is not shown at the ends of rows
edge_none : (g : Glyph) → is_edge g ≡ true → seen (glyph_bytes g) ≡ []
edge_none g h = edge_by g.link g.c g.flags.code (g.c == 10) (g.c == 32) refl refl h

-- ---- characters of a leaf

-- a space stands for a break alone, and of both nothing is seen
char_told : (t : Bool) (link : Option ℕ) (c : ℕ) → (t ≡ true → (c == 10) ≡ true) → seen (bytes_in link (encode_utf8 (if t then 32 else c))) ≡ seen (bytes_in link (encode_utf8 c))
char_told true link c h = blank_none link 32 refl ∙ sym (newline_none link c (h refl))
char_told false link c h = refl

one_told : (bold : Bool) (s : Shown) → seen (glyph_bytes (glyph_of bold s)) ≡ seen (char_bytes s)
one_told bold s = let said : Bool = is_some s.look.picture in char_told (said && (s.char == 10)) s.look.link s.char (λ e. (and_parts said (s.char == 10) e).1)

told_bytes : (bold : Bool) (shown : List Shown) → seen (flat_map glyph_bytes (map (glyph_of bold) shown)) ≡ seen (flat_map char_bytes shown)
told_bytes bold [] = refl
told_bytes bold (s ∷ shown) =
    let others : List LinkByte = flat_map glyph_bytes (map (glyph_of bold) shown) in
    seen_append (glyph_bytes (glyph_of bold s)) others ∙ ap (λ (l : List LinkByte). l ++ seen others) (one_told bold s)
    ∙ ap (λ (l : List LinkByte). seen (char_bytes s) ++ l) (told_bytes bold shown) ∙ sym (seen_append (char_bytes s) (flat_map char_bytes shown))

-- ---- trimmed characters

abbrev all_bytes : List Glyph → List LinkByte
all_bytes gs = flat_map glyph_bytes gs

all_append : (xs ys : List Glyph) → seen (all_bytes (xs ++ ys)) ≡ seen (all_bytes xs) ++ seen (all_bytes ys)
all_append xs ys = ap seen (flat_map-append glyph_bytes xs ys) ∙ seen_append (all_bytes xs) (all_bytes ys)

one_more : (g : Glyph) (gs : List Glyph) → seen (all_bytes (g ∷ gs)) ≡ seen (glyph_bytes g) ++ seen (all_bytes gs)
one_more g gs = seen_append (glyph_bytes g) (all_bytes gs)

front_by : (t : Bool) (g : Glyph) (gs : List Glyph) → is_edge g ≡ t → seen (all_bytes (without_front gs)) ≡ seen (all_bytes gs) → seen (all_bytes (if t then without_front gs else g ∷ gs)) ≡ seen (all_bytes (g ∷ gs))
front_by true g gs e h = h ∙ sym (one_more g gs ∙ ap (λ (l : List LinkByte). l ++ seen (all_bytes gs)) (edge_none g e))
front_by false g gs e h = refl

front_seen : (gs : List Glyph) → seen (all_bytes (without_front gs)) ≡ seen (all_bytes gs)
unfolding without_front
front_seen [] = refl
front_seen (g ∷ gs) = front_by (is_edge g) g gs refl (front_seen gs)

-- of so many characters, those that are left at the end
abbrev left_of : List Glyph → ℕ → List Glyph
left_of gs n = take (n - suffix_len is_edge (take n gs)) gs

back_by : (gs : List Glyph) (n : ℕ) (t : Bool) → n < length gs → is_edge (get_or gs n no_glyph) ≡ t → seen (all_bytes (left_of gs n)) ≡ seen (all_bytes (take n gs)) → seen (all_bytes (left_of gs (n + 1))) ≡ seen (all_bytes (take (n + 1) gs))
back_by gs n true within e h =
    let g : Glyph = get_or gs n no_glyph in
    let before : n + 1 - 1 ≡ n = omega arith in
    let here : is_edge (get_or gs (n + 1 - 1) no_glyph) ≡ true = ap (λ k. is_edge (get_or gs k no_glyph)) before ∙ e in
    let more : suffix_len is_edge (take (n + 1) gs) ≡ 1 + suffix_len is_edge (take (n + 1 - 1) gs) = suffix_len-take_yes is_edge gs (n + 1) no_glyph (omega arith) (omega (arith, within)) here in
    let same : suffix_len is_edge (take (n + 1 - 1) gs) ≡ suffix_len is_edge (take n gs) = ap (λ k. suffix_len is_edge (take k gs)) before in
    let left : n + 1 - suffix_len is_edge (take (n + 1) gs) ≡ n - suffix_len is_edge (take n gs) = omega (arith, more, same) in
    let none : seen (all_bytes (g ∷ [])) ≡ [] = one_more g [] ∙ append-nil (seen (glyph_bytes g)) ∙ edge_none g e in
    ap (λ k. seen (all_bytes (take k gs))) left ∙ h ∙ sym (append-nil (seen (all_bytes (take n gs)))) ∙ ap (λ (l : List LinkByte). seen (all_bytes (take n gs)) ++ l) (sym none)
    ∙ sym (all_append (take n gs) (g ∷ [])) ∙ ap (λ (l : List Glyph). seen (all_bytes l)) (sym (take_more gs n no_glyph within))
back_by gs n false within e h =
    let before : n + 1 - 1 ≡ n = omega arith in
    let here : is_edge (get_or gs (n + 1 - 1) no_glyph) ≡ false = ap (λ k. is_edge (get_or gs k no_glyph)) before ∙ e in
    let none : suffix_len is_edge (take (n + 1) gs) ≡ 0 = suffix_len-take_no is_edge gs (n + 1) no_glyph (omega arith) (omega (arith, within)) here in
    let left : n + 1 - suffix_len is_edge (take (n + 1) gs) ≡ n + 1 = omega (arith, none) in
    ap (λ k. seen (all_bytes (take k gs))) left

back_of : (gs : List Glyph) (n : ℕ) → n ≤ length gs → seen (all_bytes (left_of gs n)) ≡ seen (all_bytes (take n gs))
back_of gs zero within = let none : 0 - suffix_len is_edge (take 0 gs) ≡ 0 = omega arith in ap (λ k. seen (all_bytes (take k gs))) none
back_of gs (suc n) within =
    let next : n + 1 ≡ suc n = omega arith in
    subst (λ k. seen (all_bytes (left_of gs k)) ≡ seen (all_bytes (take k gs))) next (back_by gs n (is_edge (get_or gs n no_glyph)) (omega (arith, within)) refl (back_of gs n (omega (arith, within))))

back_seen : (gs : List Glyph) → seen (all_bytes (without_back gs)) ≡ seen (all_bytes gs)
unfolding without_back
back_seen gs =
    let whole : take (length gs) gs ≡ gs = take_all (length gs) gs (omega arith) in
    ap (λ (l : List Glyph). seen (all_bytes (take (length gs - suffix_len is_edge l) gs))) (sym whole) ∙ back_of gs (length gs) (omega arith) ∙ ap (λ (l : List Glyph). seen (all_bytes l)) whole

trimmed_seen : (gs : List Glyph) → seen (all_bytes (trimmed gs)) ≡ seen (all_bytes gs)
trimmed_seen gs = back_seen (without_front gs) ∙ front_seen gs

-- ---- runs

same_by : (t : Bool) (n m : ℕ) → (n == m) ≡ t → t ≡ true → n ≡ m
same_by true n m e h = eqb-true n m e
same_by false n m e h = absurd (no h)
  where
    no : false ≡ true → ⊥
    no e = cc

same_link : (a b : Option ℕ) → is_same_number a b ≡ true → a ≡ b
same_link None None h = refl
same_link (Some n) (Some m) h = ap (λ k. Some k) (same_by (n == m) n m refl h)
same_link None (Some m) h = absurd (no h)
  where
    no : false ≡ true → ⊥
    no e = cc
same_link (Some n) None h = absurd (no h)
  where
    no : false ≡ true → ⊥
    no e = cc

in_append : (link : Option ℕ) (xs ys : List ℕ) → bytes_in link (xs ++ ys) ≡ bytes_in link xs ++ bytes_in link ys
in_append None xs ys = refl
in_append (Some n) xs ys = map-append (λ b. record { byte = b; link = n }) xs ys

one_run : (link : Option ℕ) (flag : Bool) (text : List ℕ) (ns : List ℕ) (ts : List (List ℕ)) → flag ≡ is_some link → numbered_bytes (one_number link ++ ns) ((if flag then text ∷ [] else []) ++ ts) ≡ bytes_in link text ++ numbered_bytes ns ts
one_run None false text ns ts e = refl
one_run (Some n) true text ns ts e = refl
one_run None true text ns ts e = absurd (no e)
  where
    no : true ≡ false → ⊥
    no e = cc
one_run (Some n) false text ns ts e = absurd (no e)
  where
    no : false ≡ true → ⊥
    no e = cc

from_by : (t : Bool) (first g : Glyph) (text : List ℕ) (gs : List Glyph) → is_same_run first g ≡ t → first.flags.link ≡ is_some first.link
    → numbered_bytes (numbers_from first gs) (flat_map run_texts (runs_from first (text ++ encode_utf8 g.c) gs)) ≡ bytes_in first.link (text ++ encode_utf8 g.c) ++ all_bytes gs
    → numbered_bytes (numbers_from g gs) (flat_map run_texts (runs_from g (encode_utf8 g.c) gs)) ≡ bytes_in g.link (encode_utf8 g.c) ++ all_bytes gs
    → numbered_bytes (if t then numbers_from first gs else one_number first.link ++ numbers_from g gs) (flat_map run_texts (if t then runs_from first (text ++ encode_utf8 g.c) gs else run_with first.flags text ∷ runs_from g (encode_utf8 g.c) gs))
    ≡ bytes_in first.link text ++ all_bytes (g ∷ gs)
from_by true first g text gs e told on off =
    let alike : Bool = is_same_flags first.flags g.flags in
    let linked : Bool = is_same_number first.link g.link in
    let same : first.link ≡ g.link = same_link first.link g.link (and_parts alike linked (and_parts (alike && linked) (is_same_number first.picture g.picture) e).0).1 in
    on ∙ ap (λ (l : List LinkByte). l ++ all_bytes gs) (in_append first.link text (encode_utf8 g.c)) ∙ append_assoc (bytes_in first.link text) (bytes_in first.link (encode_utf8 g.c)) (all_bytes gs)
    ∙ ap (λ (o : Option ℕ). bytes_in first.link text ++ (bytes_in o (encode_utf8 g.c) ++ all_bytes gs)) same
from_by false first g text gs e told on off =
    one_run first.link first.flags.link text (numbers_from g gs) (flat_map run_texts (runs_from g (encode_utf8 g.c) gs)) told ∙ ap (λ (l : List LinkByte). bytes_in first.link text ++ l) off

from_bytes : (count : ℕ) (first : Glyph) (text : List ℕ) (gs : List Glyph) → IsFit count first → AllByRecursion (IsFit count) gs → numbered_bytes (numbers_from first gs) (flat_map run_texts (runs_from first text gs)) ≡ bytes_in first.link text ++ all_bytes gs
unfolding numbers_from runs_from
from_bytes count first text [] h k = ap (λ (ns : List ℕ). numbered_bytes ns (run_texts (run_with first.flags text) ++ [])) (sym (append-nil (one_number first.link))) ∙ one_run first.link first.flags.link text [] [] h.0
from_bytes count first text (g ∷ gs) h k = from_by (is_same_run first g) first g text gs refl h.0 (from_bytes count first (text ++ encode_utf8 g.c) gs h k.1) (from_bytes count g (encode_utf8 g.c) gs k.0 k.1)

runs_bytes : (count : ℕ) (gs : List Glyph) → AllByRecursion (IsFit count) gs → numbered_bytes (numbers_of gs) (flat_map run_texts (runs_of gs)) ≡ all_bytes gs
runs_bytes count [] h = refl
runs_bytes count (g ∷ gs) h = from_bytes count g (encode_utf8 g.c) gs h.0 h.1

-- ---- rows

numbered_append : (ns ms : List ℕ) (ts us : List (List ℕ)) → length ns ≡ length ts → numbered_bytes (ns ++ ms) (ts ++ us) ≡ numbered_bytes ns ts ++ numbered_bytes ms us
numbered_append [] ms [] us e = refl
numbered_append [] ms (t ∷ ts) us e = absurd (omega (arith, e))
numbered_append (n ∷ ns) ms [] us e = absurd (omega (arith, e))
numbered_append (n ∷ ns) ms (t ∷ ts) us e =
    ap (λ (l : List LinkByte). bytes_of n t ++ l) (numbered_append ns ms ts us (omega (arith, e))) ∙ sym (append_assoc (bytes_of n t) (numbered_bytes ns ts) (numbered_bytes ms us))

row_seen : (count : ℕ) (row : List Glyph) → AllByRecursion (IsFit count) row → seen (numbered_bytes (row_numbers row) (line_texts (row_of row))) ≡ seen (all_bytes row)
row_seen count row h = ap seen (runs_bytes count (trimmed row) (trimmed_kept (IsFit count) row h)) ∙ trimmed_seen row

rows_by : (count : ℕ) (t : Bool) (row : List Glyph) (g : Glyph) (gs : List Glyph) → (g.c == 10) ≡ t → AllByRecursion (IsFit count) row
    → seen (numbered_bytes (rows_numbers_from [] gs) (link_texts (rows_from [] gs))) ≡ seen (all_bytes gs)
    → seen (numbered_bytes (rows_numbers_from (row ++ g ∷ []) gs) (link_texts (rows_from (row ++ g ∷ []) gs))) ≡ seen (all_bytes ((row ++ g ∷ []) ++ gs))
    → seen (numbered_bytes (if t then row_numbers row ++ rows_numbers_from [] gs else rows_numbers_from (row ++ g ∷ []) gs) (link_texts (if t then row_of row ∷ rows_from [] gs else rows_from (row ++ g ∷ []) gs)))
    ≡ seen (all_bytes (row ++ g ∷ gs))
rows_by count true row g gs e fits on off =
    ap seen (numbered_append (row_numbers row) (rows_numbers_from [] gs) (line_texts (row_of row)) (link_texts (rows_from [] gs)) (row_fits count row fits).0)
    ∙ seen_append (numbered_bytes (row_numbers row) (line_texts (row_of row))) (numbered_bytes (rows_numbers_from [] gs) (link_texts (rows_from [] gs)))
    ∙ ap (λ (l : List LinkByte). l ++ seen (numbered_bytes (rows_numbers_from [] gs) (link_texts (rows_from [] gs)))) (row_seen count row fits)
    ∙ ap (λ (l : List LinkByte). seen (all_bytes row) ++ l) (on ∙ sym (one_more g gs ∙ ap (λ (l : List LinkByte). l ++ seen (all_bytes gs)) (newline_none g.link g.c e)))
    ∙ sym (all_append row (g ∷ gs))
rows_by count false row g gs e fits on off = off ∙ ap (λ (l : List Glyph). seen (all_bytes l)) (append_assoc row (g ∷ []) gs)

rows_seen : (count : ℕ) (row gs : List Glyph) → AllByRecursion (IsFit count) row → AllByRecursion (IsFit count) gs → seen (numbered_bytes (rows_numbers_from row gs) (link_texts (rows_from row gs))) ≡ seen (all_bytes (row ++ gs))
unfolding rows_numbers_from rows_from
rows_seen count row [] h k =
    ap (λ (ts : List (List ℕ)). seen (numbered_bytes (row_numbers row) ts)) (append-nil (line_texts (row_of row))) ∙ row_seen count row h ∙ ap (λ (l : List Glyph). seen (all_bytes l)) (sym (append-nil row))
rows_seen count row (g ∷ gs) h k =
    rows_by count (g.c == 10) row g gs refl h (rows_seen count [] gs tt k.1) (rows_seen count (row ++ g ∷ []) gs (append_kept (IsFit count) row (g ∷ []) h (k.0, tt)) k.1)

none_by : (t : Bool) (gs : List Glyph) → (length gs == 0) ≡ t → seen (numbered_bytes (rows_numbers_from [] gs) (link_texts (rows_from [] gs))) ≡ seen (all_bytes gs)
    → seen (numbered_bytes (if t then [] else rows_numbers_from [] gs) (link_texts (if t then [] else rows_from [] gs))) ≡ seen (all_bytes gs)
none_by true gs e h = ap (λ (l : List Glyph). seen (all_bytes l)) (sym (nil_from_length gs (eqb-true (length gs) 0 e)))
none_by false gs e h = h

-- the bytes of a leaf's runs belong to the links of their characters
pub runs_have_their_links : RunsHaveTheirLinks
unfolding leaf_numbers leaf_rows
runs_have_their_links labels text =
    let gs : List Glyph = trimmed (leaf_glyphs labels false text) in
    none_by (length gs == 0) gs refl (rows_seen (length (leaf_links labels text)) [] gs tt (leaf_fit labels false text)) ∙ trimmed_seen (leaf_glyphs labels false text) ∙ told_bytes false (leaf_text labels text)

-- so do those of a leaf of html
pub html_has_its_links : HtmlHasItsLinks
unfolding html_numbers html_lines
html_has_its_links text =
    let gs : List Glyph = trimmed (html_glyphs text) in
    none_by (length gs == 0) gs refl (rows_seen (length (links_from 0 (html_pieces text))) [] gs tt (html_fit text)) ∙ trimmed_seen (html_glyphs text) ∙ told_bytes false (shown_cut (html_cut text) text)

-- ---- cells

-- nothing is seen of a space between rows
both_rows : (bold : Bool) (shown row : List Glyph) → seen (all_bytes ((shown ++ trimmed row) ++ space bold ∷ [])) ≡ seen (all_bytes (shown ++ row))
both_rows bold shown row =
    all_append (shown ++ trimmed row) (space bold ∷ []) ∙ append-nil (seen (all_bytes (shown ++ trimmed row))) ∙ all_append shown (trimmed row)
    ∙ ap (λ (l : List LinkByte). seen (all_bytes shown) ++ l) (trimmed_seen row) ∙ sym (all_append shown row)

spaced_by : (t : Bool) (bold : Bool) (shown row : List Glyph) (g : Glyph) (gs : List Glyph) → (g.c == 10) ≡ t
    → seen (all_bytes (spaced_from bold ((shown ++ trimmed row) ++ space bold ∷ []) [] gs)) ≡ seen (all_bytes (((shown ++ trimmed row) ++ space bold ∷ []) ++ gs))
    → seen (all_bytes (spaced_from bold shown (row ++ g ∷ []) gs)) ≡ seen (all_bytes ((shown ++ (row ++ g ∷ [])) ++ gs))
    → seen (all_bytes (if t then spaced_from bold ((shown ++ trimmed row) ++ space bold ∷ []) [] gs else spaced_from bold shown (row ++ g ∷ []) gs)) ≡ seen (all_bytes ((shown ++ row) ++ g ∷ gs))
spaced_by true bold shown row g gs e on off =
    on ∙ all_append ((shown ++ trimmed row) ++ space bold ∷ []) gs ∙ ap (λ (l : List LinkByte). l ++ seen (all_bytes gs)) (both_rows bold shown row)
    ∙ ap (λ (l : List LinkByte). seen (all_bytes (shown ++ row)) ++ l) (sym (one_more g gs ∙ ap (λ (l : List LinkByte). l ++ seen (all_bytes gs)) (newline_none g.link g.c e))) ∙ sym (all_append (shown ++ row) (g ∷ gs))
spaced_by false bold shown row g gs e on off =
    off ∙ ap (λ (l : List Glyph). seen (all_bytes (l ++ gs))) (sym (append_assoc shown row (g ∷ []))) ∙ ap (λ (l : List Glyph). seen (all_bytes l)) (append_assoc (shown ++ row) (g ∷ []) gs)

spaced_seen : (bold : Bool) (shown row gs : List Glyph) → seen (all_bytes (spaced_from bold shown row gs)) ≡ seen (all_bytes ((shown ++ row) ++ gs))
unfolding spaced_from
spaced_seen bold shown row [] =
    all_append shown (trimmed row) ∙ ap (λ (l : List LinkByte). seen (all_bytes shown) ++ l) (trimmed_seen row) ∙ sym (all_append shown row) ∙ ap (λ (l : List Glyph). seen (all_bytes l)) (sym (append-nil (shown ++ row)))
spaced_seen bold shown row (g ∷ gs) =
    spaced_by (g.c == 10) bold shown row g gs refl
    (spaced_seen bold ((shown ++ trimmed row) ++ space bold ∷ []) [] gs ∙ ap (λ (l : List Glyph). seen (all_bytes (l ++ gs))) (append-nil ((shown ++ trimmed row) ++ space bold ∷ [])))
    (spaced_seen bold shown (row ++ g ∷ []) gs)

-- the bytes of a cell's runs do too
pub cells_have_their_links : CellsHaveTheirLinks
unfolding cell_numbers cell_runs
cells_have_their_links labels bold text =
    let count : ℕ = length (leaf_links labels text) in
    let gs : List Glyph = trimmed (leaf_glyphs labels bold text) in
    ap seen (runs_bytes count (spaced_from bold [] [] gs) (spaced_fit count bold [] [] gs tt tt (leaf_fit labels bold text))) ∙ spaced_seen bold [] [] gs ∙ trimmed_seen (leaf_glyphs labels bold text)
    ∙ told_bytes bold (leaf_text labels text)

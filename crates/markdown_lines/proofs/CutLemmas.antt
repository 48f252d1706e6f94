-- Rows straight from the runs of a text.
use Rattle.std.proofs.Common.{◌≡◌, ℕ, suc, ◌+◌, ◌-◌, ◌<◌, ◌≤◌, ⊎_elim, Bool, true, false, cond, eqb, ◌&&◌, List, [], ◌∷◌, ◌++◌, map, length, take, drop, get_or, None, Some, Option, refl, sym, ap, subst, ◌∙◌, arith, append_assoc, append-nil, if◌then◌else◌}
use Rattle.std.specs.Prelude.{chars, encode_utf8, encode_utf8_all}
use Rattle.std.specs.Str.{IsUtf8, IsCharBoundary}
use Rattle.std.proofs.lemmas.Bool.{cases_lt, eqb-true, eq-eqb}
use Rattle.std.proofs.lemmas.List.{get_or_past, length-take, drop_more, drop_all, drop-append-le, map-append, take-append-drop}
use Rattle.std.proofs.lemmas.Str.{encodes-chars, encode_ascii, chars-append, chars_past_char, IsUtf8-take, IsUtf8-drop, IsCharBoundary-before_ascii}
use Rattle.std.proofs.StrCases.{chars_of_empty}
use Rattle.memchr.specs.Find.{Nowhere, NoneBefore, Passes, is_byte}
use Rattle.mad_md.specs.Flagged.{Run}
use Rattle.mad_md.specs.Lines.{LineContent}
use Rattle.markdown_inlines.specs.Looks.{is_same, is_same_number}
use Rattle.markdown_lines.specs.Glyphs.{is_same_flags, is_same_run, runs_from, runs_of, run_with}
use Rattle.markdown_lines.specs.LinkNumbers.{one_number, numbers_from, numbers_of}
use Rattle.markdown_lines.specs.CutRows.{like, in_front, cut_rows, runs_row, whole_row, begun_rows, cut_numbers, BeginsApart, piece_runs, piece_numbers}
use Rattle.markdown_lines.specs.declared.glyphs.Glyph.{Glyph}

pub not_true : (t : Bool) → (t ≡ true → ⊥) → t ≡ false
not_true true h = absurd (h refl)
not_true false h = refl

pub apart : true ≡ false → ⊥
apart e = cc

-- ---- a text that looks like one character, in front of rows

-- no character is a break
abbrev pub AreUnbroken : List ℕ → Type 0
AreUnbroken [] = Unit {0}
AreUnbroken (c ∷ cs) = (eqb c 10 ≡ false) × AreUnbroken cs

-- rows, the first of which has these characters in front
abbrev pub all_in_front : List Glyph → List (List Glyph) → List (List Glyph)
all_in_front gs [] = []
all_in_front gs (row ∷ rows) = (gs ++ row) ∷ rows

front_more : (g : Glyph) (gs : List Glyph) (rows : List (List Glyph)) → in_front g (all_in_front gs rows) ≡ all_in_front (g ∷ gs) rows
front_more g gs [] = refl
front_more g gs (row ∷ rows) = refl

pub front_behind : (row : List Glyph) (g : Glyph) (rows : List (List Glyph)) → all_in_front (row ++ g ∷ []) rows ≡ all_in_front row (in_front g rows)
front_behind row g [] = refl
front_behind row g (r ∷ rows) = ap (λ (l : List Glyph). l ∷ rows) (append_assoc row (g ∷ []) r)

pub front_none : (rows : List (List Glyph)) → all_in_front [] rows ≡ rows
front_none [] = refl
front_none (row ∷ rows) = refl

cut_unbroken : (g : Glyph) (cs : List ℕ) (rest : List Glyph) → AreUnbroken cs → cut_rows (map (like g) cs ++ rest) ≡ all_in_front (map (like g) cs) (cut_rows rest)
unfolding cut_rows
cut_unbroken g [] rest h = sym (front_none (cut_rows rest))
cut_unbroken g (c ∷ cs) rest h =
    let behind : List (List Glyph) = cut_rows (map (like g) cs ++ rest) in
    ap (λ t. cond t ([] ∷ behind) (in_front (like g c) behind)) h.0
    ∙ ap (in_front (like g c)) (cut_unbroken g cs rest h.1) ∙ front_more (like g c) (map (like g) cs) (cut_rows rest)

same_bool : (b : Bool) → is_same b b ≡ true
same_bool true = refl
same_bool false = refl

same_number : (n : Option ℕ) → is_same_number n n ≡ true
same_number None = refl
same_number (Some n) = eq-eqb n n refl

both : (a b : Bool) → a ≡ true → b ≡ true → (a && b) ≡ true
both a b h k = ap (λ x. x && b) h ∙ ap (λ x. true && x) k

seven : (a b c d e f g : Bool) → a ≡ true → b ≡ true → c ≡ true → d ≡ true → e ≡ true → f ≡ true → g ≡ true → (a && b && c && d && e && f && g) ≡ true
seven a b c d e f g p q r s t u v =
    both (a && b && c && d && e && f) g (both (a && b && c && d && e) f (both (a && b && c && d) e (both (a && b && c) d (both (a && b) c (both a b p q) r) s) t) u) v

same_run : (g : Glyph) (d c : ℕ) → is_same_run (like g d) (like g c) ≡ true
same_run g d c =
    let flags : is_same_flags g.flags g.flags ≡ true =
    seven _ _ _ _ _ _ _ (same_bool g.flags.bold) (same_bool g.flags.italic) (same_bool g.flags.code) (same_bool g.flags.strikeout) (same_bool g.flags.link) (same_bool g.flags.picture) (same_bool g.flags.picture_sign) in
    let linked : (is_same_flags g.flags g.flags && is_same_number g.link g.link) ≡ true = both (is_same_flags g.flags g.flags) (is_same_number g.link g.link) flags (same_number g.link) in
    both (is_same_flags g.flags g.flags && is_same_number g.link g.link) (is_same_number g.picture g.picture) linked (same_number g.picture)

pub run_front : (g : Glyph) (d : ℕ) (text cs : List ℕ) (row : List Glyph) → BeginsApart g row → runs_from (like g d) text (map (like g) cs ++ row) ≡ run_with g.flags (text ++ encode_utf8_all cs) ∷ runs_of row
unfolding runs_from
run_front g d text [] [] h = ap (λ (t : List ℕ). run_with g.flags t ∷ []) (sym (append-nil text))
run_front g d text [] (r ∷ row) h =
    ap (λ t. cond t (runs_from (like g d) (text ++ encode_utf8 r.c) row) (run_with g.flags text ∷ runs_from r (encode_utf8 r.c) row)) h
    ∙ ap (λ (t : List ℕ). run_with g.flags t ∷ runs_of (r ∷ row)) (sym (append-nil text))
run_front g d text (c ∷ cs) row h =
    let behind : List Glyph = map (like g) cs ++ row in
    ap (λ t. cond t (runs_from (like g d) (text ++ encode_utf8 c) behind) (run_with g.flags text ∷ runs_from (like g c) (encode_utf8 c) behind)) (same_run g d c)
    ∙ run_front g d (text ++ encode_utf8 c) cs row h
    ∙ ap (λ (t : List ℕ). run_with g.flags t ∷ runs_of row) (append_assoc text (encode_utf8 c) (encode_utf8_all cs))

pub numbers_front : (g : Glyph) (d : ℕ) (cs : List ℕ) (row : List Glyph) → BeginsApart g row → numbers_from (like g d) (map (like g) cs ++ row) ≡ one_number g.link ++ numbers_of row
unfolding numbers_from
numbers_front g d [] [] h = sym (append-nil (one_number g.link))
numbers_front g d [] (r ∷ row) h = ap (λ t. cond t (numbers_from (like g d) row) (one_number g.link ++ numbers_from r row)) h
numbers_front g d (c ∷ cs) row h =
    let behind : List Glyph = map (like g) cs ++ row in
    ap (λ t. cond t (numbers_from (like g d) behind) (one_number g.link ++ numbers_from (like g c) behind)) (same_run g d c) ∙ numbers_front g d cs row h

-- there is a first row, and its first character is of another run, or it has none
abbrev pub FirstApart : Glyph → List (List Glyph) → Type 0
FirstApart g [] = ⊥
FirstApart g (row ∷ rows) = BeginsApart g row

-- there is a row
abbrev pub HasRow : List (List Glyph) → Type 0
HasRow [] = ⊥
HasRow (row ∷ rows) = Unit {0}

has_row : (gs : List Glyph) → HasRow (cut_rows gs)
unfolding cut_rows
has_row [] = tt
has_row (g ∷ gs) = either (eqb g.c 10) g (cut_rows gs) (has_row gs)
  where
    either : (t : Bool) (g : Glyph) (rows : List (List Glyph)) → HasRow rows → HasRow (if t then [] ∷ rows else in_front g rows)
    either true g rows h = tt
    either false g [] h = h
    either false g (row ∷ rows) h = tt

first_apart : (g : Glyph) (rest : List Glyph) → BeginsApart g rest → FirstApart g (cut_rows rest)
unfolding cut_rows
first_apart g [] h = tt
first_apart g (r ∷ rest) h = either (eqb r.c 10) g r (cut_rows rest) (has_row rest) h
  where
    either : (t : Bool) (g r : Glyph) (rows : List (List Glyph)) → HasRow rows → is_same_run g r ≡ false → FirstApart g (if t then [] ∷ rows else in_front r rows)
    either true g r rows some h = tt
    either false g r [] some h = some
    either false g r (row ∷ rows) some h = h

cut_break : (g : Glyph) (rest : List Glyph) → cut_rows (like g 10 ∷ rest) ≡ [] ∷ cut_rows rest
unfolding cut_rows
cut_break g rest = refl

begun_front : (begun : List Run) (g : Glyph) (c : ℕ) (cs : List ℕ) (rows : List (List Glyph)) → FirstApart g rows
    → begun_rows begun (all_in_front (map (like g) (c ∷ cs)) rows) ≡ begun_rows (begun ++ run_with g.flags (encode_utf8_all (c ∷ cs)) ∷ []) rows
begun_front begun g c cs [] h = absurd h
begun_front begun g c cs (row ∷ rows) h =
    ap (λ (rs : List Run). runs_row (begun ++ rs) ∷ map whole_row rows) (run_front g c (encode_utf8 c) cs row h)
    ∙ ap (λ (rs : List Run). runs_row rs ∷ map whole_row rows) (sym (append_assoc begun (run_with g.flags (encode_utf8_all (c ∷ cs)) ∷ []) (runs_of row)))

numbers_piece : (g : Glyph) (c : ℕ) (cs : List ℕ) (rows : List (List Glyph)) → FirstApart g rows → cut_numbers (all_in_front (map (like g) (c ∷ cs)) rows) ≡ one_number g.link ++ cut_numbers rows
unfolding cut_numbers
numbers_piece g c cs [] h = absurd h
numbers_piece g c cs (row ∷ rows) h = ap (λ (ns : List ℕ). ns ++ cut_numbers rows) (numbers_front g c cs row h) ∙ append_assoc (one_number g.link) (numbers_of row) (cut_numbers rows)

pub begun_none : (rows : List (List Glyph)) → begun_rows [] rows ≡ map whole_row rows
begun_none [] = refl
begun_none (row ∷ rows) = refl

begun_break : (begun : List Run) (rows : List (List Glyph)) → begun_rows begun ([] ∷ rows) ≡ runs_row begun ∷ begun_rows [] rows
begun_break begun rows = ap (λ (rs : List Run). runs_row rs ∷ map whole_row rows) (append-nil begun) ∙ ap (λ (ls : List LineContent). runs_row begun ∷ ls) (sym (begun_none rows))

-- ---- from bytes to characters

-- no byte is a newline
abbrev pub HasNoBreak : List ℕ → Type 0
HasNoBreak text = (k : ℕ) → eqb (get_or text k 0) 10 ≡ false

pub get_or_behind : (xs ys : List ℕ) (k : ℕ) → get_or (xs ++ ys) (length xs + k) 0 ≡ get_or ys k 0
get_or_behind [] ys k = ap (λ n. get_or ys n 0) (omega arith)
get_or_behind (x ∷ xs) ys k = ap (λ n. get_or (x ∷ (xs ++ ys)) n 0) (swap (length xs) k) ∙ get_or_behind xs ys k
  where
    swap : (n k : ℕ) → suc n + k ≡ suc (n + k)
    swap n k = omega arith

pub ascii_first : (c d : ℕ) (cs : List ℕ) → eqb c d ≡ true → d < 128 → get_or (encode_utf8_all (c ∷ cs)) 0 0 ≡ d
ascii_first c d cs e low = let same : c ≡ d = eqb-true c d e in ap (λ (bs : List ℕ). get_or (bs ++ encode_utf8_all cs) 0 0) (ap encode_utf8 same ∙ encode_ascii d low)

pub ascii_second : (c d : ℕ) (cs : List ℕ) → eqb c d ≡ true → d < 128 → get_or (encode_utf8_all (c ∷ cs)) 1 0 ≡ get_or (encode_utf8_all cs) 0 0
ascii_second c d cs e low = let same : c ≡ d = eqb-true c d e in ap (λ (bs : List ℕ). get_or (bs ++ encode_utf8_all cs) 1 0) (ap encode_utf8 same ∙ encode_ascii d low)

pub first_no : (c d : ℕ) (cs : List ℕ) → d < 128 → eqb (get_or (encode_utf8_all (c ∷ cs)) 0 0) d ≡ false → eqb c d ≡ false
first_no c d cs low h = not_true (eqb c d) (λ e. apart (sym (ap (λ b. eqb b d) (ascii_first c d cs e low) ∙ eq-eqb d d refl) ∙ h))

rest_unbroken : (c : ℕ) (cs : List ℕ) → HasNoBreak (encode_utf8_all (c ∷ cs)) → HasNoBreak (encode_utf8_all cs)
rest_unbroken c cs h k = ap (λ b. eqb b 10) (sym (get_or_behind (encode_utf8 c) (encode_utf8_all cs) k)) ∙ h (length (encode_utf8 c) + k)

pub unbroken : (cs : List ℕ) → HasNoBreak (encode_utf8_all cs) → AreUnbroken cs
unbroken [] h = tt
unbroken (c ∷ cs) h = (first_no c 10 cs (omega arith) (h 0), unbroken cs (rest_unbroken c cs h))

some_chars : (text : List ℕ) (c : ℕ) (cs : List ℕ) → chars text ≡ c ∷ cs → eqb (length text) 0 ≡ false
some_chars text c cs e = not_true (eqb (length text) 0) (λ none. no_cons c cs (sym (chars_of_empty text (eqb-true (length text) 0 none)) ∙ e))
  where
    no_cons : (c : ℕ) (cs : List ℕ) → [] ≡ c ∷ cs → ⊥
    no_cons c cs e = absurd (omega (arith, ap length e))

piece_by : (begun : List Run) (g : Glyph) (text cs : List ℕ) (rest : List Glyph) → chars text ≡ cs → encode_utf8_all cs ≡ text → AreUnbroken cs → FirstApart g (cut_rows rest)
    → begun_rows begun (cut_rows (map (like g) cs ++ rest)) ≡ begun_rows (begun ++ piece_runs g text) (cut_rows rest)
piece_by begun g text [] rest cs_is text_is h apart_is =
    ap (λ (rs : List Run). begun_rows rs (cut_rows rest)) (sym (append-nil begun) ∙ ap (λ (t : List ℕ). begun ++ piece_runs g t) text_is)
piece_by begun g text (c ∷ cs) rest cs_is text_is h apart_is =
    ap (begun_rows begun) (cut_unbroken g (c ∷ cs) rest h) ∙ begun_front begun g c cs (cut_rows rest) apart_is
    ∙ ap (λ (t : List ℕ). begun_rows (begun ++ run_with g.flags t ∷ []) (cut_rows rest)) text_is
    ∙ ap (λ t. begun_rows (begun ++ cond t [] (run_with g.flags text ∷ [])) (cut_rows rest)) (sym (some_chars text c cs cs_is))

piece_numbers_by : (g : Glyph) (text cs : List ℕ) (rest : List Glyph) → chars text ≡ cs → encode_utf8_all cs ≡ text → AreUnbroken cs → FirstApart g (cut_rows rest)
    → cut_numbers (cut_rows (map (like g) cs ++ rest)) ≡ piece_numbers g text ++ cut_numbers (cut_rows rest)
piece_numbers_by g text [] rest cs_is text_is h apart_is = ap (λ (t : List ℕ). piece_numbers g t ++ cut_numbers (cut_rows rest)) text_is
piece_numbers_by g text (c ∷ cs) rest cs_is text_is h apart_is =
    ap cut_numbers (cut_unbroken g (c ∷ cs) rest h) ∙ numbers_piece g c cs (cut_rows rest) apart_is
    ∙ ap (λ t. cond t [] (one_number g.link) ++ cut_numbers (cut_rows rest)) (sym (some_chars text c cs cs_is))

-- a text without breaks is one run more
pub text_rows : (begun : List Run) (g : Glyph) (text : List ℕ) (rest : List Glyph) → IsUtf8 text → HasNoBreak text → FirstApart g (cut_rows rest)
    → begun_rows begun (cut_rows (map (like g) (chars text) ++ rest)) ≡ begun_rows (begun ++ piece_runs g text) (cut_rows rest)
text_rows begun g text rest utf8 free h =
    let back : encode_utf8_all (chars text) ≡ text = encodes-chars text utf8 in
    piece_by begun g text (chars text) rest refl back (unbroken (chars text) (subst HasNoBreak (sym back) free)) h

-- and one number more, where it belongs to a link
pub text_numbers : (g : Glyph) (text : List ℕ) (rest : List Glyph) → IsUtf8 text → HasNoBreak text → FirstApart g (cut_rows rest)
    → cut_numbers (cut_rows (map (like g) (chars text) ++ rest)) ≡ piece_numbers g text ++ cut_numbers (cut_rows rest)
text_numbers g text rest utf8 free h =
    let back : encode_utf8_all (chars text) ≡ text = encodes-chars text utf8 in
    piece_numbers_by g text (chars text) rest refl back (unbroken (chars text) (subst HasNoBreak (sym back) free)) h

chars_cut : (text : List ℕ) (at : ℕ) → IsUtf8 text → at < length text → get_or text at 0 ≡ 10 → chars text ≡ chars (take at text) ++ 10 ∷ chars (drop (at + 1) text)
chars_cut text at utf8 within is =
    let cut : IsCharBoundary text at = IsCharBoundary-before_ascii text at within (omega (arith, is)) in
    let behind : drop at text ≡ 10 ∷ drop (at + 1) text = drop_more text at 0 within ∙ ap (λ (b : ℕ). b ∷ drop (at + 1) text) is in
    ap chars (sym (take-append-drop at text)) ∙ chars-append (take at text) (drop at text) (IsUtf8-take text at utf8 cut)
    ∙ ap (λ (cs : List ℕ). chars (take at text) ++ cs)
    (chars_past_char (drop at text) (drop (at + 1) text) 10 (IsUtf8-drop text at utf8 cut) (behind ∙ ap (λ (bs : List ℕ). bs ++ drop (at + 1) text) (sym (encode_ascii 10 (omega arith)))))

glyphs_cut : (g : Glyph) (text : List ℕ) (at : ℕ) (more : List Glyph) → IsUtf8 text → at < length text → get_or text at 0 ≡ 10
    → map (like g) (chars text) ++ more ≡ map (like g) (chars (take at text)) ++ like g 10 ∷ (map (like g) (chars (drop (at + 1) text)) ++ more)
glyphs_cut g text at more utf8 within is =
    let front : List ℕ = chars (take at text) in
    let behind : List ℕ = chars (drop (at + 1) text) in
    ap (λ (cs : List ℕ). map (like g) cs ++ more) (chars_cut text at utf8 within is) ∙ ap (λ (gs : List Glyph). gs ++ more) (map-append (like g) front (10 ∷ behind))
    ∙ append_assoc (map (like g) front) (map (like g) (10 ∷ behind)) more

break_first : (g : Glyph) (rest : List Glyph) → FirstApart g (cut_rows (like g 10 ∷ rest))
break_first g rest = subst (FirstApart g) (sym (cut_break g rest)) tt

before_break : (text : List ℕ) (at : ℕ) → at < length text → Nowhere (Passes (is_byte 10) text) 0 at → HasNoBreak (take at text)
before_break text at within none k = ⊎_elim
    (λ (few : k < at). not_true _ (λ e. none k (omega arith) few (ap (λ b. eqb b 10) (sym (Rattle.std.proofs.lemmas.List.get_or-take at text k 0 few)) ∙ e)))
    (λ (over : at ≤ k). ap (λ b. eqb b 10) (get_or_past (take at text) k 0 (omega (arith, over, length-take at text)))) (cases_lt k at)

-- what a search says that finds none
pub no_break : (bs : List ℕ) → Nowhere (Passes (is_byte 10) bs) 0 (length bs) → HasNoBreak bs
no_break bs none k = ⊎_elim (λ (few : k < length bs). not_true _ (none k (omega arith) few)) (λ (over : length bs ≤ k). ap (λ b. eqb b 10) (get_or_past bs k 0 over)) (cases_lt k (length bs))

-- up to a break, a text is one run more in its row, and another row begins
pub break_rows : (begun : List Run) (g : Glyph) (text : List ℕ) (at : ℕ) (more : List Glyph) → IsUtf8 text → at < length text → get_or text at 0 ≡ 10 → Nowhere (Passes (is_byte 10) text) 0 at
    → begun_rows begun (cut_rows (map (like g) (chars text) ++ more)) ≡ runs_row (begun ++ piece_runs g (take at text)) ∷ begun_rows [] (cut_rows (map (like g) (chars (drop (at + 1) text)) ++ more))
break_rows begun g text at more utf8 within is none =
    let behind : List Glyph = map (like g) (chars (drop (at + 1) text)) ++ more in
    let front : IsUtf8 (take at text) = IsUtf8-take text at utf8 (IsCharBoundary-before_ascii text at within (omega (arith, is))) in
    ap (λ (gs : List Glyph). begun_rows begun (cut_rows gs)) (glyphs_cut g text at more utf8 within is)
    ∙ text_rows begun g (take at text) (like g 10 ∷ behind) front (before_break text at within none) (break_first g behind)
    ∙ ap (begun_rows (begun ++ piece_runs g (take at text))) (cut_break g behind) ∙ begun_break (begun ++ piece_runs g (take at text)) (cut_rows behind)

pub break_numbers : (g : Glyph) (text : List ℕ) (at : ℕ) (more : List Glyph) → IsUtf8 text → at < length text → get_or text at 0 ≡ 10 → Nowhere (Passes (is_byte 10) text) 0 at
    → cut_numbers (cut_rows (map (like g) (chars text) ++ more)) ≡ piece_numbers g (take at text) ++ cut_numbers (cut_rows (map (like g) (chars (drop (at + 1) text)) ++ more))
unfolding cut_numbers
break_numbers g text at more utf8 within is none =
    let behind : List Glyph = map (like g) (chars (drop (at + 1) text)) ++ more in
    let front : IsUtf8 (take at text) = IsUtf8-take text at utf8 (IsCharBoundary-before_ascii text at within (omega (arith, is))) in
    ap (λ (gs : List Glyph). cut_numbers (cut_rows gs)) (glyphs_cut g text at more utf8 within is)
    ∙ text_numbers g (take at text) (like g 10 ∷ behind) front (before_break text at within none) (break_first g behind)
    ∙ ap (λ (rows : List (List Glyph)). piece_numbers g (take at text) ++ cut_numbers rows) (cut_break g behind)

-- a text that isn't empty has characters
pub some_text : (text : List ℕ) → IsUtf8 text → 0 < length text → 0 < length (chars text)
some_text text utf8 some = many (chars text) text (encodes-chars text utf8) some
  where
    many : (cs text : List ℕ) → encode_utf8_all cs ≡ text → 0 < length text → 0 < length cs
    many [] text e some = absurd (omega (arith, ap length e, some))
    many (c ∷ cs) text e some = omega arith

-- ---- steps

-- the first break of a text is at a place
pub record FirstBreak (text : List ℕ) (at : ℕ) : Type 0 where
  pub within : at < length text
  pub is : eqb (get_or text at 0) 10 ≡ true
  pub none : Nowhere (Passes (is_byte 10) text) 0 at

-- what a search says that finds one
pub first_break : (hay text : List ℕ) (at : ℕ) → hay ≡ text → NoneBefore (Passes (is_byte 10) hay) 0 (length hay) at × Passes (is_byte 10) hay at → FirstBreak text at
first_break hay text at e f = subst (λ (t : List ℕ). FirstBreak t at) e (record { within = f.0.high; is = f.1; none = f.0.before })

-- what one says that finds none
pub found_none : (hay text : List ℕ) → hay ≡ text → Nowhere (Passes (is_byte 10) hay) 0 (length hay) → Nowhere (Passes (is_byte 10) text) 0 (length text)
found_none hay text e f = subst (λ (t : List ℕ). Nowhere (Passes (is_byte 10) t) 0 (length t)) e f

-- a row ended, and the characters behind its break are to come
pub rows_step : (whole shown0 shown1 shown2 : List LineContent) (runs0 runs1 runs2 : List Run) (start next : ℕ) (g : Glyph) (text front after : List ℕ) (at : ℕ) (more : List Glyph)
    → IsUtf8 text → at < length text → eqb (get_or text at 0) 10 ≡ true → Nowhere (Passes (is_byte 10) text) 0 at → front ≡ take at text → after ≡ drop (at + 1) text → start ≤ length runs0
    → shown1 ≡ shown0 → runs1 ≡ runs0 ++ piece_runs g front → shown2 ≡ shown1 ++ runs_row (drop start runs1) ∷ [] → runs2 ≡ runs1 → next ≡ length runs1
    → shown0 ++ begun_rows (drop start runs0) (cut_rows (map (like g) (chars text) ++ more)) ≡ whole
    → shown2 ++ begun_rows (drop next runs2) (cut_rows (map (like g) (chars after) ++ more)) ≡ whole
rows_step whole shown0 shown1 shown2 runs0 runs1 runs2 start next g text front after at more utf8 within is none front_is after_is low shown1_is runs1_is shown2_is runs2_is next_is h =
    let behind : List (List Glyph) = cut_rows (map (like g) (chars (drop (at + 1) text)) ++ more) in
    let begun : List Run = drop start runs0 ++ piece_runs g (take at text) in
    let row : drop start runs1 ≡ begun =
    ap (drop start) (runs1_is ∙ ap (λ (t : List ℕ). runs0 ++ piece_runs g t) front_is) ∙ drop-append-le start runs0 (piece_runs g (take at text)) low in
    let none_begun : drop next runs2 ≡ [] = drop_all next runs2 (omega (arith, ap length runs2_is, next_is)) in
    let lines : shown2 ≡ shown0 ++ runs_row begun ∷ [] =
    shown2_is ∙ ap (λ (ls : List LineContent). ls ++ runs_row (drop start runs1) ∷ []) shown1_is ∙ ap (λ (rs : List Run). shown0 ++ runs_row rs ∷ []) row in
    ap (λ (ls : List LineContent). ls ++ begun_rows (drop next runs2) (cut_rows (map (like g) (chars after) ++ more))) lines
    ∙ ap (λ (rs : List Run). (shown0 ++ runs_row begun ∷ []) ++ begun_rows rs (cut_rows (map (like g) (chars after) ++ more))) none_begun
    ∙ ap (λ (t : List ℕ). (shown0 ++ runs_row begun ∷ []) ++ begun_rows [] (cut_rows (map (like g) (chars t) ++ more))) after_is
    ∙ append_assoc shown0 (runs_row begun ∷ []) (begun_rows [] behind)
    ∙ ap (λ (ls : List LineContent). shown0 ++ ls) (sym (break_rows (drop start runs0) g text at more utf8 within (eqb-true _ _ is) none)) ∙ h

pub numbers_step : (whole numbers0 numbers1 : List ℕ) (g : Glyph) (text front after : List ℕ) (at : ℕ) (more : List Glyph)
    → IsUtf8 text → at < length text → eqb (get_or text at 0) 10 ≡ true → Nowhere (Passes (is_byte 10) text) 0 at → front ≡ take at text → after ≡ drop (at + 1) text
    → numbers1 ≡ numbers0 ++ piece_numbers g front
    → numbers0 ++ cut_numbers (cut_rows (map (like g) (chars text) ++ more)) ≡ whole
    → numbers1 ++ cut_numbers (cut_rows (map (like g) (chars after) ++ more)) ≡ whole
numbers_step whole numbers0 numbers1 g text front after at more utf8 within is none front_is after_is numbers1_is h =
    let behind : List ℕ = cut_numbers (cut_rows (map (like g) (chars (drop (at + 1) text)) ++ more)) in
    ap (λ (ns : List ℕ). ns ++ cut_numbers (cut_rows (map (like g) (chars after) ++ more))) (numbers1_is ∙ ap (λ (t : List ℕ). numbers0 ++ piece_numbers g t) front_is)
    ∙ ap (λ (t : List ℕ). (numbers0 ++ piece_numbers g (take at text)) ++ cut_numbers (cut_rows (map (like g) (chars t) ++ more))) after_is
    ∙ append_assoc numbers0 (piece_numbers g (take at text)) behind
    ∙ ap (λ (ns : List ℕ). numbers0 ++ ns) (sym (break_numbers g text at more utf8 within (eqb-true _ _ is) none)) ∙ h

-- the last piece of a text is put, and what is behind the text is to come
pub rows_last : (whole shown0 shown1 : List LineContent) (runs0 runs1 : List Run) (start : ℕ) (g : Glyph) (text : List ℕ) (rest : List Glyph)
    → IsUtf8 text → Nowhere (Passes (is_byte 10) text) 0 (length text) → BeginsApart g rest → start ≤ length runs0 → shown1 ≡ shown0 → runs1 ≡ runs0 ++ piece_runs g text
    → shown0 ++ begun_rows (drop start runs0) (cut_rows (map (like g) (chars text) ++ rest)) ≡ whole → shown1 ++ begun_rows (drop start runs1) (cut_rows rest) ≡ whole
rows_last whole shown0 shown1 runs0 runs1 start g text rest utf8 none apart_is low shown1_is runs1_is h =
    ap (λ (ls : List LineContent). ls ++ begun_rows (drop start runs1) (cut_rows rest)) shown1_is
    ∙ ap (λ (rs : List Run). shown0 ++ begun_rows rs (cut_rows rest)) (ap (drop start) runs1_is ∙ drop-append-le start runs0 (piece_runs g text) low)
    ∙ ap (λ (ls : List LineContent). shown0 ++ ls) (sym (text_rows (drop start runs0) g text rest utf8 (no_break text none) (first_apart g rest apart_is))) ∙ h

pub numbers_last : (whole numbers0 numbers1 : List ℕ) (g : Glyph) (text : List ℕ) (rest : List Glyph) → IsUtf8 text → Nowhere (Passes (is_byte 10) text) 0 (length text) → BeginsApart g rest
    → numbers1 ≡ numbers0 ++ piece_numbers g text → numbers0 ++ cut_numbers (cut_rows (map (like g) (chars text) ++ rest)) ≡ whole → numbers1 ++ cut_numbers (cut_rows rest) ≡ whole
numbers_last whole numbers0 numbers1 g text rest utf8 none apart_is numbers1_is h =
    ap (λ (ns : List ℕ). ns ++ cut_numbers (cut_rows rest)) numbers1_is ∙ append_assoc numbers0 (piece_numbers g text) (cut_numbers (cut_rows rest))
    ∙ ap (λ (ns : List ℕ). numbers0 ++ ns) (sym (text_numbers g text rest utf8 (no_break text none) (first_apart g rest apart_is))) ∙ h

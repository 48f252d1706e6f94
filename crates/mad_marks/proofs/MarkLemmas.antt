-- Marks change no character, and rows' counted characters are the text's.
use Rattle.std.proofs.Common.{◌≡◌, ℕ, ◌+◌, ◌&&◌, Bool, true, false, not, cond, List, [], ◌∷◌, ◌++◌, map, length, refl, sym, ap, ◌∙◌, arith, filter}
use Rattle.std.specs.Prelude.{◌==◌}
use Rattle.std.specs.List.{flat_map}
use Rattle.std.specs.Char.{is_whitespace}
use Rattle.std.proofs.lemmas.Bool.Decides.{nat_tests}
use Rattle.std.proofs.lemmas.List.Elements.{filter-append}
use Rattle.mad_md.specs.Flagged.{Flags, FlaggedChar}
use Rattle.mad_wrap.specs.Keeps.{AllWhite, Keeps}
use Rattle.mad_mark_runs.specs.Marks.{value_at, blank_value}
use Rattle.mad_marks.specs.RowMarks.{is_counted, counted, numbered, marked, marked_rows, counted_marked, mark_of, MarkedChar, MarkPart, with_char, parts_of, chars_of}
use Rattle.mad_mark_runs.specs.declared.mark_runs.MarkRun.{MarkRun}

-- ---- law (a): marks change no character

-- marks change no character
pub marks_off : (has : Flags → Bool) (runs : List MarkRun) (n : ℕ) (cs : List FlaggedChar) → map (λ c. c.char) (marked has runs n cs) ≡ cs
marks_off has runs n [] = refl
marks_off has runs n (c ∷ cs) = ap (λ l. c ∷ l) (marks_off has runs (cond (is_counted has c) (n + 1) n) cs)

joined : (c : MarkedChar) (p : MarkPart) (ps : List MarkPart) (t : Bool) → (c.value == p.value) ≡ t
    → flat_map chars_of (cond t (record { value = p.value; chars = c.char ∷ p.chars } ∷ ps) (record { value = c.value; chars = c.char ∷ [] } ∷ (p ∷ ps))) ≡ c ∷ flat_map chars_of (p ∷ ps)
joined c p ps false e = refl
joined c p ps true e =
    let same : c.value ≡ p.value = grind (arith, nat_tests, e) in
    ap (λ (v : ℕ). record { value = v; char = c.char } ∷ flat_map chars_of (p ∷ ps)) (sym same)

with_char_adds : (c : MarkedChar) (ps : List MarkPart) → flat_map chars_of (with_char c ps) ≡ c ∷ flat_map chars_of ps
with_char_adds c [] = refl
with_char_adds c (p ∷ ps) = joined c p ps (c.value == p.value) refl

-- the parts tile the text
pub parts_tile : (cs : List MarkedChar) → flat_map chars_of (parts_of cs) ≡ cs
parts_tile [] = refl
parts_tile (c ∷ cs) = with_char_adds c (parts_of cs) ∙ ap (λ l. c ∷ l) (parts_tile cs)

-- ---- law (b): over the rows that a wrap keeps, the k-th counted character is the text's

-- marks of two texts, one after the other
marked_joined : (has : Flags → Bool) (runs : List MarkRun) (n : ℕ) (xs ys : List FlaggedChar) → marked has runs n (xs ++ ys) ≡ marked has runs n xs ++ marked has runs (n + counted has xs) ys
marked_joined has runs n [] ys = ap (λ k. marked has runs k ys) (omega arith)
marked_joined has runs n (x ∷ xs) ys = ap (λ l. record { value = mark_of has runs n x; char = x } ∷ l)
    (marked_joined has runs (cond (is_counted has x) (n + 1) n) xs ys ∙ ap (λ k. marked has runs (cond (is_counted has x) (n + 1) n) xs ++ marked has runs k ys) (count_on has n x xs (is_counted has x)))
  where
    count_on : (has : Flags → Bool) (n : ℕ) (x : FlaggedChar) (xs : List FlaggedChar) (t : Bool) → cond t (n + 1) n + counted has xs ≡ n + length (cond t (x ∷ filter (is_counted has) xs) (filter (is_counted has) xs))
    count_on has n x xs true = omega arith
    count_on has n x xs false = refl

-- of whitespace nothing is counted
white_apart : (a w : Bool) → w ≡ true → (a && not w) ≡ false
white_apart true true e = refl
white_apart true false e = sym e
white_apart false w e = refl

white_uncounted : (has : Flags → Bool) (gap : List FlaggedChar) → AllWhite gap → filter (is_counted has) gap ≡ []
white_uncounted has [] h = refl
white_uncounted has (x ∷ xs) h = ap (λ t. cond t (x ∷ filter (is_counted has) xs) (filter (is_counted has) xs)) (white_apart (has x.flags) (is_whitespace x.char) h.0) ∙ white_uncounted has xs h.1

white_unmarked : (has : Flags → Bool) (runs : List MarkRun) (n : ℕ) (gap : List FlaggedChar) → AllWhite gap → counted_marked has (marked has runs n gap) ≡ []
white_unmarked has runs n [] h = refl
white_unmarked has runs n (x ∷ xs) h =
    let rest = marked has runs (cond (is_counted has x) (n + 1) n) xs in
    ap (λ t. cond t (record { value = mark_of has runs n x; char = x } ∷ counted_marked has rest) (counted_marked has rest)) (white_apart (has x.flags) (is_whitespace x.char) h.0)
    ∙ white_unmarked has runs (cond (is_counted has x) (n + 1) n) xs h.1

-- The counted characters of the rows, with their marks, are those of the text: each row begins with the number that the rows before it leave.
pub rows_marks : (has : Flags → Bool) (runs : List MarkRun) (n : ℕ) (text : List FlaggedChar) (rows : List (List FlaggedChar)) → Keeps text rows
    → flat_map (counted_marked has) (marked_rows has runs n rows) ≡ counted_marked has (marked has runs n text)
rows_marks has runs n text [] h = sym (ap (λ t. counted_marked has (marked has runs n t)) h)
rows_marks has runs n text (row ∷ rows) (gap, rest, is, white, more) =
    let is_c = λ (c : MarkedChar). is_counted has c.char in
    let m = n + counted has row in
    let after : m + counted has gap ≡ m = ap (λ (l : List FlaggedChar). m + length l) (white_uncounted has gap white) ∙ omega arith in
    sym (
    ap (λ t. counted_marked has (marked has runs n t)) is
    ∙ ap (filter is_c) (marked_joined has runs n row (gap ++ rest) ∙ ap (λ l. marked has runs n row ++ l) (marked_joined has runs m gap rest ∙ ap (λ k. marked has runs m gap ++ marked has runs k rest) after))
    ∙ filter-append is_c (marked has runs n row) (marked has runs m gap ++ marked has runs m rest)
    ∙ ap (λ l. filter is_c (marked has runs n row) ++ l) (filter-append is_c (marked has runs m gap) (marked has runs m rest) ∙ ap (λ l. l ++ filter is_c (marked has runs m rest)) (white_unmarked has runs m gap white))
    ∙ ap (λ l. filter is_c (marked has runs n row) ++ l) (sym (rows_marks has runs m rest rows more))
    )

-- ---- the same, by numbers alone

number_step : (has : Flags → Bool) (runs : List MarkRun) (n : ℕ) (x : FlaggedChar) (xs : List FlaggedChar) (h w : Bool) → ((k : ℕ) → counted_marked has (marked has runs k xs) ≡ numbered runs k (filter (is_counted has) xs))
    → cond (h && not w) (record { value = cond h (cond w (blank_value runs n) (value_at runs n)) 0; char = x } ∷ counted_marked has (marked has runs (cond (h && not w) (n + 1) n) xs)) (counted_marked has (marked has runs (cond (h && not w) (n + 1) n) xs))
    ≡ numbered runs n (cond (h && not w) (x ∷ filter (is_counted has) xs) (filter (is_counted has) xs))
number_step has runs n x xs true true more = more n
number_step has runs n x xs true false more = ap (λ l. record { value = value_at runs n; char = x } ∷ l) (more (n + 1))
number_step has runs n x xs false w more = more n

-- the k-th counted character has the k-th mark
pub are_numbered : (has : Flags → Bool) (runs : List MarkRun) (n : ℕ) (cs : List FlaggedChar) → counted_marked has (marked has runs n cs) ≡ numbered runs n (filter (is_counted has) cs)
are_numbered has runs n [] = refl
are_numbered has runs n (x ∷ xs) = number_step has runs n x xs (has x.flags) (is_whitespace x.char) (λ k. are_numbered has runs k xs)

-- two texts have the marks of one, and then those that go on from its length
pub numbered_joined : (runs : List MarkRun) (n : ℕ) (xs ys : List FlaggedChar) → numbered runs n (xs ++ ys) ≡ numbered runs n xs ++ numbered runs (n + length xs) ys
numbered_joined runs n [] ys = ap (λ k. numbered runs k ys) (omega arith)
numbered_joined runs n (x ∷ xs) ys = ap (λ l. record { value = value_at runs n; char = x } ∷ l) (numbered_joined runs (n + 1) xs ys ∙ ap (λ k. numbered runs (n + 1) xs ++ numbered runs k ys) (omega arith))

-- over all rows too, where each begins with the number that those before it leave
pub rows_numbered : (has : Flags → Bool) (runs : List MarkRun) (n : ℕ) (rows : List (List FlaggedChar)) → flat_map (counted_marked has) (marked_rows has runs n rows) ≡ numbered runs n (flat_map (filter (is_counted has)) rows)
rows_numbered has runs n [] = refl
rows_numbered has runs n (row ∷ rows) =
    ap (λ l. l ++ flat_map (counted_marked has) (marked_rows has runs (n + counted has row) rows)) (are_numbered has runs n row)
    ∙ ap (λ l. numbered runs n (filter (is_counted has) row) ++ l) (rows_numbered has runs (n + counted has row) rows)
    ∙ sym (numbered_joined runs n (filter (is_counted has) row) (flat_map (filter (is_counted has)) rows))

-- what a text keeps in its rows has the same counted characters
pub kept_counted : (has : Flags → Bool) (text : List FlaggedChar) (rows : List (List FlaggedChar)) → Keeps text rows → filter (is_counted has) text ≡ flat_map (filter (is_counted has)) rows
kept_counted has text [] h = ap (filter (is_counted has)) h
kept_counted has text (row ∷ rows) (gap, rest, is, white, more) =
    ap (filter (is_counted has)) is ∙ filter-append (is_counted has) row (gap ++ rest)
    ∙ ap (λ l. filter (is_counted has) row ++ l) (filter-append (is_counted has) gap rest ∙ ap (λ l. l ++ filter (is_counted has) rest) (white_uncounted has gap white) ∙ kept_counted has rest rows more)

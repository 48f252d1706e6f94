-- The cells of a table that was written are read as they are.
use Rattle.std.proofs.Common.{◌≡◌, ℕ, zero, suc, ◌+◌, ◌-◌, Bool, true, false, cond, not, ◌||◌, ◌&&◌, ◌==◌, List, [], ◌∷◌, ◌++◌, length, map, take, drop, reverse, flat_map, refl, sym, ap, subst, ◌∙◌, append_assoc, append-nil, arith}
use Rattle.std.proofs.Math.Seq.{drop-append_seam}
use Rattle.std.proofs.lemmas.Bool.{eqb-true}
use Rattle.std.proofs.lemmas.Bool.Decides.{nat_tests}
use Rattle.std.proofs.lemmas.Grind.{flat_map-append}
use Rattle.std.proofs.lemmas.List.{reverse-append, take_at}
use Rattle.std.specs.Char.{is_ascii_punctuation}
use Rattle.std.specs.List.{list_all, prefix_len, suffix_len}
use Rattle.mad_md.specs.declared.alignment.Alignment.{Alignment}
use Rattle.mad_md.specs.declared.alignment.Alignment.TheVariants.{Unspecified, Left, Center, Right}
use Rattle.markdown_marks.specs.Bytes.{is_blank, is_blank_byte, without_blanks}
use Rattle.markdown_marks.specs.Headings.{is_either, without_end}
use Rattle.markdown_marks.specs.Tables.{back_spot, cell_count, cells_from, columns_from, delimited_columns, row_of}
use Rattle.markdown_cells.specs.Cells.{after_cell, alignment_of, alignments, cell_len, cell_of, unbarred, with_byte, with_waiting}
use Rattle.markdown_writing.specs.Phrases.{Phrase, plain, code_span, emphasis, link, first_text, line_text, phrase_text}
use Rattle.markdown_writing.specs.Pages.{table}
use Rattle.markdown_writing.specs.Reading.{AreReadBack, IsReadAs, IsWritable, TablesAreReadBack, texts_read}
use Rattle.markdown_writing.specs.Tables.{barred, barred_byte, cell_text, delimiter, delimiters, row_text}
use Rattle.markdown_writing.specs.Words.{escaped_byte, escaped_if}
use Rattle.markdown_writing.specs.Writable.{AreCells, ArePhrases, AreRows, IsCell, begins_cell, empty_cell, full_cell, line_ends_full}
use Rattle.markdown_writing.proofs.PhraseLemmas.{line_end}
use Rattle.markdown_writing.proofs.WordLemmas.{EndsFull, by_escape, by_test, less_one}

-- ---- the bar in front

-- what is behind the bar that a row begins with
pub row_is : (bytes : List ℕ) → row_of (124 ∷ bytes) ≡ bytes
unfolding without_blanks
row_is bytes = refl

-- ---- a text with backslashes before its bars

measured_one : (b : ℕ) (bs : List ℕ) (escaped : Bool) → (b == 124) ≡ false → cell_len escaped (b ∷ bs) ≡ 1 + cell_len (b == 92) bs
unfolding cell_len
measured_one b bs escaped e = rw e refl

measured_bar : (bs : List ℕ) (escaped : Bool) → cell_len escaped (92 ∷ 124 ∷ bs) ≡ 1 + (1 + cell_len false bs)
unfolding cell_len
measured_bar bs escaped = refl

-- what holds of a text of which the first byte is a bar behind a backslash, or another byte
by_bar : (P : List ℕ → Type 0) (b : ℕ) → P (92 ∷ 124 ∷ []) → ((b == 124) ≡ false → P (b ∷ [])) → P (barred_byte b)
by_bar P b f g = by_escape P (b == 124) b (λ e. subst (λ (c : ℕ). P (92 ∷ c ∷ [])) (sym (eqb-true b 124 e)) f) g

-- how many bytes a cell has, up to the bar behind it
cell_measured : (text others : List ℕ) (escaped : Bool) → cell_len escaped (barred text ++ 32 ∷ 124 ∷ others) ≡ length (barred text ++ 32 ∷ [])
unfolding cell_len
cell_measured [] others escaped = refl
cell_measured (b ∷ bs) others escaped =
    let rest = barred bs ++ 32 ∷ 124 ∷ others in
    by_bar (λ (front : List ℕ). cell_len escaped ((front ++ barred bs) ++ 32 ∷ 124 ∷ others) ≡ length ((front ++ barred bs) ++ 32 ∷ [])) b
    (measured_bar rest escaped ∙ ap (λ (n : ℕ). 1 + (1 + n)) (cell_measured bs others false) ∙ two_more (length (barred bs ++ 32 ∷ [])))
    (λ e. measured_one b rest escaped e ∙ ap (λ (n : ℕ). 1 + n) (cell_measured bs others (b == 92)) ∙ one_more (length (barred bs ++ 32 ∷ [])))
  where
    one_more : (n : ℕ) → 1 + n ≡ suc n
    one_more n = omega arith

    two_more : (n : ℕ) → 1 + (1 + n) ≡ suc (suc n)
    two_more n = omega arith

counted_one : (b : ℕ) (bs : List ℕ) (escaped some : Bool) (count : ℕ) → (b == 124) ≡ false → cells_from escaped some count (b ∷ bs) ≡ cells_from (b == 92) (some || not (is_blank_byte b)) count bs
unfolding cells_from
counted_one b bs escaped some count e = rw e refl

counted_bar : (bs : List ℕ) (escaped some : Bool) (count : ℕ) → cells_from escaped some count (92 ∷ 124 ∷ bs) ≡ cells_from false ((some || true) || true) count bs
unfolding cells_from
counted_bar bs escaped some count = refl

-- the bars in a cell cut nothing
cell_counted : (text others : List ℕ) (escaped some : Bool) (count : ℕ) → cells_from escaped some count (barred text ++ 32 ∷ 124 ∷ others) ≡ cells_from false false (count + 1) others
unfolding cells_from
cell_counted [] others escaped some count = refl
cell_counted (b ∷ bs) others escaped some count =
    let rest = barred bs ++ 32 ∷ 124 ∷ others in
    by_bar (λ (front : List ℕ). cells_from escaped some count ((front ++ barred bs) ++ 32 ∷ 124 ∷ others) ≡ cells_from false false (count + 1) others) b
    (counted_bar rest escaped some count ∙ cell_counted bs others false ((some || true) || true) count)
    (λ e. counted_one b rest escaped some count e ∙ cell_counted bs others (b == 92) (some || not (is_blank_byte b)) count)

with_none : (text : List ℕ) (waits : Bool) → with_waiting text waits ++ [] ≡ with_waiting text waits
with_none text waits = append-nil (with_waiting text waits)

and_true : (t : Bool) → (t && true) ≡ t
and_true true = refl
and_true false = refl

-- a byte that is no bar joins, or waits
one_joins : (text : List ℕ) (b : ℕ) (bs : List ℕ) → with_waiting (with_byte text b) (b == 92) ++ bs ≡ text ++ b ∷ bs
one_joins text b bs =
    by_test (b == 92) (with_waiting (with_byte text b) (b == 92) ++ bs ≡ text ++ b ∷ bs)
    (λ e. rw e (append_assoc text (92 ∷ []) bs ∙ ap (λ (c : ℕ). text ++ c ∷ bs) (sym (eqb-true b 92 e))))
    (λ e. rw e (append_assoc text (b ∷ []) bs))

unbarred_one : (b : ℕ) (bs text : List ℕ) (waits : Bool) → (b == 124) ≡ false → unbarred text waits (b ∷ bs) ≡ unbarred (with_byte (with_waiting text (waits && true)) b) (b == 92) bs
unfolding unbarred
unbarred_one b bs text waits e = rw e refl

unbarred_bar : (bs text : List ℕ) (waits : Bool) → unbarred text waits (92 ∷ 124 ∷ bs) ≡ unbarred (with_waiting text (waits && true) ++ 124 ∷ []) false bs
unfolding unbarred
unbarred_bar bs text waits = refl

-- without them it is the text again, behind what was there before
unbarred_is : (bs text : List ℕ) (waits : Bool) → unbarred text waits (barred bs) ≡ with_waiting text waits ++ bs
unfolding unbarred
unbarred_is [] text waits = sym (with_none text waits)
unbarred_is (b ∷ bs) text waits =
    let now = with_waiting text waits in
    by_test (b == 124) (unbarred text waits (barred (b ∷ bs)) ≡ now ++ b ∷ bs)
    (λ e. subst (λ (c : ℕ). unbarred text waits (barred (c ∷ bs)) ≡ now ++ c ∷ bs) (sym (eqb-true b 124 e))
    (unbarred_bar (barred bs) text waits ∙ ap (λ (t : Bool). unbarred (with_waiting text t ++ 124 ∷ []) false (barred bs)) (and_true waits) ∙ unbarred_is bs (now ++ 124 ∷ []) false ∙ append_assoc now (124 ∷ []) bs))
    (λ e. ap (λ (t : Bool). unbarred text waits (escaped_if t b ++ barred bs)) e
    ∙ unbarred_one b (barred bs) text waits e
    ∙ ap (λ (t : Bool). unbarred (with_byte (with_waiting text t) b) (b == 92) (barred bs)) (and_true waits)
    ∙ unbarred_is bs (with_byte now b) (b == 92)
    ∙ one_joins now b bs)

-- ---- the ends of a cell

-- some bytes of which neither the first nor the last is a blank
record HasEnds (bytes : List ℕ) : Type 0 where
  b : ℕ
  bs : List ℕ
  is : bytes ≡ b ∷ bs
  begins : is_blank_byte b ≡ false
  front : List ℕ
  last : ℕ
  whole : bytes ≡ front ++ last ∷ []
  ends : is_blank_byte last ≡ false

-- some bytes of which the first is no blank
record BeginsDark (bytes : List ℕ) : Type 0 where
  b : ℕ
  bs : List ℕ
  is : bytes ≡ b ∷ bs
  begins : is_blank_byte b ≡ false

escaped_begins : (t : Bool) (b : ℕ) (tail : List ℕ) → is_blank_byte b ≡ false → BeginsDark (escaped_if t b ++ tail)
escaped_begins true b tail h = record { b = 92; bs = b ∷ tail; is = refl; begins = refl }
escaped_begins false b tail h = record { b = b; bs = tail; is = refl; begins = h }

negated : (t : Bool) → not t ≡ true → t ≡ false
negated true h = sym h
negated false h = refl

cell_begins : (p : Phrase) (ps : List Phrase) → ArePhrases (p ∷ ps) → begins_cell (p ∷ ps) ≡ true → BeginsDark (line_text (p ∷ ps))
cell_begins (plain []) ps are h = let no : false ≡ true = are.each in absurd (cc)
cell_begins (plain (b ∷ bs)) ps are h =
    subst BeginsDark (sym (append_assoc (escaped_if (is_ascii_punctuation b) b) (flat_map escaped_byte bs) (flat_map phrase_text ps)))
    (escaped_begins (is_ascii_punctuation b) b (flat_map escaped_byte bs ++ flat_map phrase_text ps) (negated (is_blank_byte b) h))
cell_begins (code_span code) ps are h = record { b = 96; bs = _; is = refl; begins = refl }
cell_begins (emphasis strong words) ps are h = record { b = 42; bs = _; is = refl; begins = refl }
cell_begins (link words destination) ps are h = record { b = 91; bs = _; is = refl; begins = refl }

ends_of : (bytes : List ℕ) → BeginsDark bytes → EndsFull bytes → HasEnds bytes
ends_of bytes f h = record { b = f.b; bs = f.bs; is = f.is; begins = f.begins; front = h.front; last = h.last; whole = h.whole; ends = h.full }

barred_begins : (bytes : List ℕ) → BeginsDark bytes → BeginsDark (barred bytes)
barred_begins bytes f = subst (λ (l : List ℕ). BeginsDark (barred l)) (sym f.is) (escaped_begins (f.b == 124) f.b (barred f.bs) f.begins)

-- the last byte stays the last
last_stays : (front : List ℕ) (last : ℕ) → (before : List ℕ) × (barred (front ++ last ∷ []) ≡ before ++ last ∷ [])
last_stays front last =
    by_test (last == 124) ((before : List ℕ) × (barred (front ++ last ∷ []) ≡ before ++ last ∷ []))
    (λ e. (barred front ++ 92 ∷ [], flat_map-append barred_byte front (last ∷ []) ∙ rw e (sym (append_assoc (barred front) (92 ∷ []) (last ∷ [])))))
    (λ e. (barred front, flat_map-append barred_byte front (last ∷ []) ∙ rw e refl))

barred_ends : (bytes : List ℕ) → BeginsDark bytes → EndsFull bytes → HasEnds (barred bytes)
barred_ends bytes f h =
    let found = last_stays h.front h.last in
    let begun = barred_begins bytes f in
    record { b = begun.b; bs = begun.bs; is = begun.is; begins = begun.begins; front = found.0; last = h.last; whole = ap barred h.whole ∙ found.1; ends = h.full }

-- ---- blanks at both sides

blank_gone : (b : ℕ) (bs : List ℕ) → is_blank_byte b ≡ false → without_blanks (32 ∷ b ∷ bs) ≡ b ∷ bs
unfolding without_blanks
blank_gone b bs h = ap (λ (t : Bool). drop (1 + cond t (1 + prefix_len is_blank_byte bs) 0) (32 ∷ b ∷ bs)) h

one_behind : (front : List ℕ) (last : ℕ) → is_either 32 9 last ≡ false → suffix_len (is_either 32 9) ((front ++ last ∷ []) ++ 32 ∷ []) ≡ 1
one_behind front last h =
    ap (prefix_len (is_either 32 9)) (reverse-append (front ++ last ∷ []) (32 ∷ []) ∙ ap (λ (bs : List ℕ). 32 ∷ bs) (reverse-append front (last ∷ [])))
    ∙ ap (λ (t : Bool). 1 + cond t (1 + prefix_len (is_either 32 9) (reverse front)) 0) h

end_gone : (front : List ℕ) (last : ℕ) → is_either 32 9 last ≡ false → without_end 32 9 ((front ++ last ∷ []) ++ 32 ∷ []) ≡ front ++ last ∷ []
unfolding without_end
end_gone front last h = less_one (front ++ last ∷ []) 32 (suffix_len (is_either 32 9) ((front ++ last ∷ []) ++ 32 ∷ [])) (one_behind front last h)

trimmed_is : (bytes : List ℕ) → HasEnds bytes → without_end 32 9 (without_blanks (32 ∷ (bytes ++ 32 ∷ []))) ≡ bytes
trimmed_is bytes h =
    ap (λ (bs : List ℕ). without_end 32 9 (without_blanks (32 ∷ (bs ++ 32 ∷ [])))) h.is
    ∙ ap (without_end 32 9) (blank_gone h.b (h.bs ++ 32 ∷ []) h.begins)
    ∙ ap (λ (bs : List ℕ). without_end 32 9 (bs ++ 32 ∷ [])) (sym h.is ∙ h.whole)
    ∙ end_gone h.front h.last h.ends
    ∙ sym h.whole

none_trimmed : without_end 32 9 (without_blanks (32 ∷ 32 ∷ [])) ≡ []
unfolding without_blanks without_end
none_trimmed = refl

-- a cell without the blanks at both sides
cell_trimmed : (phrases : List Phrase) → IsCell phrases → without_end 32 9 (without_blanks (32 ∷ (barred (line_text phrases) ++ 32 ∷ []))) ≡ barred (line_text phrases)
cell_trimmed phrases empty_cell = none_trimmed
cell_trimmed phrases (full_cell [] are begins ends) = none_trimmed
cell_trimmed phrases (full_cell (p ∷ ps) are begins ends) =
    trimmed_is (barred (line_text (p ∷ ps))) (barred_ends (line_text (p ∷ ps)) (cell_begins p ps are begins) (line_end p ps ends))

-- ---- a row

-- one more byte in front
measured_first : (text others : List ℕ) → cell_len false (32 ∷ (barred text ++ 32 ∷ 124 ∷ others)) ≡ length (32 ∷ (barred text ++ 32 ∷ []))
unfolding cell_len
measured_first text others = rw (cell_measured text others false) (omega arith)

-- the first cell of a row, and what is behind it
parts_of_row : (text others : List ℕ) → (32 ∷ (barred text ++ 32 ∷ 124 ∷ [])) ++ others ≡ (32 ∷ (barred text ++ 32 ∷ [])) ++ 124 ∷ others
parts_of_row text others = ap (λ (bs : List ℕ). 32 ∷ bs) (append_assoc (barred text) (32 ∷ 124 ∷ []) others ∙ sym (append_assoc (barred text) (32 ∷ []) (124 ∷ others)))

same_row : (text others : List ℕ) → (32 ∷ (barred text ++ 32 ∷ [])) ++ 124 ∷ others ≡ 32 ∷ (barred text ++ 32 ∷ 124 ∷ others)
same_row text others = ap (λ (bs : List ℕ). 32 ∷ bs) (append_assoc (barred text) (32 ∷ []) (124 ∷ others))

-- the length of its first cell
measured : (text others : List ℕ) → cell_len false ((32 ∷ (barred text ++ 32 ∷ [])) ++ 124 ∷ others) ≡ length (32 ∷ (barred text ++ 32 ∷ []))
measured text others = ap (cell_len false) (same_row text others) ∙ measured_first text others

first_cell : (text others : List ℕ) → cell_of ((32 ∷ (barred text ++ 32 ∷ [])) ++ 124 ∷ others) ≡ without_end 32 9 (without_blanks (32 ∷ (barred text ++ 32 ∷ [])))
first_cell text others =
    let cell = 32 ∷ (barred text ++ 32 ∷ []) in
    ap (λ (bs : List ℕ). without_end 32 9 (without_blanks bs)) (take_at cell (124 ∷ others) (cell_len false (cell ++ 124 ∷ others)) (sym (measured text others)))

later_cells : (text others : List ℕ) → after_cell ((32 ∷ (barred text ++ 32 ∷ [])) ++ 124 ∷ others) ≡ others
later_cells text others =
    let cell = 32 ∷ (barred text ++ 32 ∷ []) in
    ap (λ (n : ℕ). drop 1 (drop n (cell ++ 124 ∷ others))) (measured text others) ∙ ap (drop 1) (drop-append_seam cell (124 ∷ others))

texts_are : (cells : List (List Phrase)) → AreCells cells → texts_read (length cells) (flat_map cell_text cells) ≡ map line_text cells
texts_are [] h = refl
texts_are (cell ∷ cells) h =
    let text = line_text cell in
    let others = flat_map cell_text cells in
    let row = (32 ∷ (barred text ++ 32 ∷ [])) ++ 124 ∷ others in
    ap (texts_read (length (cell ∷ cells))) (parts_of_row text others)
    ∙ ap (λ (bs : List ℕ). unbarred [] false bs ∷ texts_read (length cells) (after_cell row)) (first_cell text others ∙ cell_trimmed cell h.0)
    ∙ ap (λ (bs : List ℕ). bs ∷ texts_read (length cells) (after_cell row)) (unbarred_is text [] false)
    ∙ ap (λ (bs : List ℕ). text ∷ texts_read (length cells) bs) (later_cells text others)
    ∙ ap (λ (ls : List (List ℕ)). text ∷ ls) (texts_are cells h.1)

-- ---- how many cells it has

one_counted : (text others : List ℕ) (count : ℕ) → cells_from false false count (32 ∷ (barred text ++ 32 ∷ 124 ∷ others)) ≡ cells_from false false (count + 1) others
unfolding cells_from
one_counted text others count = cell_counted text others false false count

all_counted : (cells : List (List Phrase)) (count : ℕ) → cells_from false false count (flat_map cell_text cells) ≡ count + length cells
unfolding cells_from
all_counted [] count = omega arith
all_counted (cell ∷ cells) count =
    let text = line_text cell in
    let others = flat_map cell_text cells in
    ap (cells_from false false count) (parts_of_row text others ∙ same_row text others)
    ∙ one_counted text others count
    ∙ all_counted cells (count + 1)
    ∙ one_more count (length cells)
  where
    one_more : (n m : ℕ) → (n + 1) + m ≡ n + suc m
    one_more n m = omega arith

not_all : (front behind : List ℕ) → is_blank (front ++ 124 ∷ behind) ≡ false
unfolding is_blank
not_all [] behind = refl
not_all (b ∷ bs) behind = and_false (is_blank_byte b) _ (not_all bs behind)
  where
    and_false : (p q : Bool) → q ≡ false → (p && q) ≡ false
    and_false true q k = k
    and_false false q k = refl

row_dark : (cell : List Phrase) (cells : List (List Phrase)) → is_blank (flat_map cell_text (cell ∷ cells)) ≡ false
row_dark cell cells =
    let text = line_text cell in
    let others = flat_map cell_text cells in
    ap is_blank (parts_of_row text others) ∙ not_all (32 ∷ (barred text ++ 32 ∷ [])) others

counted_where : (row : List ℕ) → is_blank row ≡ false → cell_count (124 ∷ row) ≡ cells_from false false 0 row
unfolding cell_count without_blanks
counted_where row h = rw h refl

-- a row has as many cells as were written
pub row_counted : (cells : List (List Phrase)) → (length cells == 0) ≡ false → cell_count (row_text cells) ≡ length cells
row_counted [] some = let no : true ≡ false = some in absurd (cc)
row_counted (cell ∷ cells) some = counted_where (flat_map cell_text (cell ∷ cells)) (row_dark cell cells) ∙ all_counted (cell ∷ cells) 0 ∙ none_before (length (cell ∷ cells))
  where
    none_before : (n : ℕ) → 0 + n ≡ n
    none_before n = omega arith

row_read : (cells : List (List Phrase)) → (length cells == 0) ≡ false → AreCells cells → IsReadAs (row_text cells) cells
row_read cells some h = record { count = row_counted cells some; texts = ap (texts_read (length cells)) (row_is (flat_map cell_text cells)) ∙ texts_are cells h }

rows_read : (columns : ℕ) (rows : List (List (List Phrase))) → (columns == 0) ≡ false → AreRows columns rows → AreReadBack rows
rows_read columns [] some h = tt
rows_read columns (row ∷ rows) some h = (row_read row (ap (λ (n : ℕ). n == 0) h.0 ∙ some) h.1, rows_read columns rows some h.2)

-- ---- the row of delimiters

-- a column of it; behind a blank a bar ends a cell
column_counted : (a : Alignment) (count : ℕ) (others : List ℕ) → columns_from (back_spot 32) count (124 ∷ (delimiter a ++ others)) ≡ columns_from (back_spot 32) (count + 1) (124 ∷ others)
unfolding columns_from
column_counted Unspecified count others = refl
column_counted Left count others = refl
column_counted Center count others = refl
column_counted Right count others = refl

all_columns : (rule : List Alignment) (count : ℕ) → columns_from (back_spot 32) count (124 ∷ flat_map delimiter rule) ≡ suc count + length rule
unfolding columns_from
all_columns [] count = omega arith
all_columns (a ∷ rule) count = column_counted a count (flat_map delimiter rule) ∙ all_columns rule (count + 1) ∙ one_more count (length rule)
  where
    one_more : (n m : ℕ) → suc (n + 1) + m ≡ suc n + suc m
    one_more n m = omega arith

first_counted : (a : Alignment) (others : List ℕ) → delimited_columns (124 ∷ (delimiter a ++ others)) ≡ columns_from (back_spot 32) 0 (124 ∷ others)
unfolding delimited_columns without_blanks columns_from
first_counted Unspecified others = refl
first_counted Left others = refl
first_counted Center others = refl
first_counted Right others = refl

-- a row of delimiters has so many columns
pub delimiters_counted : (rule : List Alignment) → (length rule == 0) ≡ false → delimited_columns (delimiters rule) ≡ length rule
delimiters_counted [] some = let no : true ≡ false = some in absurd (cc)
delimiters_counted (a ∷ rule) some = first_counted a (flat_map delimiter rule) ∙ all_columns rule 0 ∙ one_more (length rule)
  where
    one_more : (n : ℕ) → suc 0 + n ≡ suc n
    one_more n = omega arith

first_aligned : (a : Alignment) (others : List ℕ) → alignment_of (cell_of (delimiter a ++ others)) ≡ a
unfolding cell_len without_blanks without_end
first_aligned Unspecified others = refl
first_aligned Left others = refl
first_aligned Center others = refl
first_aligned Right others = refl

later_aligned : (a : Alignment) (others : List ℕ) → after_cell (delimiter a ++ others) ≡ others
unfolding cell_len
later_aligned Unspecified others = refl
later_aligned Left others = refl
later_aligned Center others = refl
later_aligned Right others = refl

rule_read : (rule : List Alignment) → alignments (length rule) (flat_map delimiter rule) ≡ rule
unfolding alignments
rule_read [] = refl
rule_read (a ∷ rule) =
    let others = flat_map delimiter rule in
    ap (λ (x : Alignment). x ∷ alignments (length rule) (after_cell (delimiter a ++ others))) (first_aligned a others)
    ∙ ap (λ (bs : List ℕ). a ∷ alignments (length rule) bs) (later_aligned a others)
    ∙ ap (λ (ls : List Alignment). a ∷ ls) (rule_read rule)

-- tables are read as they are
pub tables_read : TablesAreReadBack
tables_read rule head rows h =
    (ap (alignments (length rule)) (row_is (flat_map delimiter rule)) ∙ rule_read rule, rows_read (length rule) (head ∷ rows) h.0 h.1)

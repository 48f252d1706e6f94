-- Printable texts keep the cells of their tables.
use Rattle.std.proofs.Common.{◌≡◌, ◌≢◌, ◌⊎◌, inl, inr, ℕ, ◌+◌, ◌<◌, ◌==◌, ◌&&◌, ◌||◌, not, nat_lt, Bool, true, false, cond, List, [], ◌∷◌, ◌++◌, map, refl, ap, sym, ◌∙◌, subst, arith}
use Rattle.std.specs.Prelude.{encode_utf8_all}
use Rattle.std.specs.Char.{is_control, is_whitespace}
use Rattle.std.specs.Str.{chars, IsUtf8}
use Rattle.std.proofs.Math.Utf8.{scalar, scalars, low_scalar}
use Rattle.std.proofs.lemmas.Bool.{and_parts, and_from}
use Rattle.std.proofs.lemmas.Bool.Decides.{nat_tests}
use Rattle.std.proofs.lemmas.Str.{encodes-chars, scalars-chars}
use Rattle.mad_md.specs.Flagged.{Run}
use Rattle.mad_md.specs.Lines.{StyledRuns, LineContent, normal, table_row, table_rule, horizontal_rule}
use Rattle.mad_md.specs.Scan.{cut_cells, cell_of, line_of}
use Rattle.mad_md.proofs.WrittenChars.{is_plain, put, KeepsSigns, signs_put, cut_put}
use Rattle.mad_md.proofs.WrittenCells.{chars_put, char_cell, put_run, put_cell}
use Rattle.mad_md.proofs.WrittenParts.{part_cells, put_part, char_part, part_put, bar_is_part}
use Rattle.mad_characters.specs.Pictures.{is_printable_char, turns_direction, picture}
use Rattle.mad_measure.specs.Printable.{shown_from, printable_text}
use Rattle.mad_measure.specs.KeptCells.{HaveNoWhitespaceControl, shown_bytes, shown_run, shown_cell, shown_part, KeepsItsCells, TableLinesKeepTheirCells}
use Rattle.mad_measure.proofs.PrintableLemmas.{true_is_false, scalar_by}
use Rattle.mad_measure.proofs.KeptFormLemmas.{picture_shown}

-- ---- characters that are no blank control

-- a character, and no such one
is_clean : ℕ → Bool
is_clean c = scalar c && not (is_whitespace c && is_control c)

-- such a character, or for another one whitespace or a sign that is none
clean_with : ℕ → Bool → Bool → ℕ
clean_with c true blank = c
clean_with c false true = 0x3000
clean_with c false false = 0xFFFD

clean : ℕ → ℕ
clean c = clean_with c (is_clean c) (is_whitespace c)

and_none : (b : Bool) → (b && false) ≡ false
and_none true = refl
and_none false = refl

sign_clean : (c : ℕ) → is_plain c ≡ false → is_clean c ≡ true
unfolding is_clean
sign_clean c h =
    let control : is_control c ≡ false = grind (arith, nat_tests) in
    let low : c < 55296 = grind (arith, nat_tests) in
    and_from (scalar c) (not (is_whitespace c && is_control c)) (low_scalar c low) (ap (λ b. not (is_whitespace c && b)) control ∙ ap not (and_none (is_whitespace c)))

scalar_with : (c : ℕ) (t blank : Bool) → is_clean c ≡ t → scalar (clean_with c t blank) ≡ true
unfolding is_clean clean_with
scalar_with c true blank h = (and_parts (scalar c) (not (is_whitespace c && is_control c)) h).0
scalar_with c false true h = refl
scalar_with c false false h = refl

blank_with : (c : ℕ) (t blank : Bool) → is_whitespace c ≡ blank → is_whitespace (clean_with c t blank) ≡ is_whitespace c
unfolding clean_with
blank_with c true blank h = refl
blank_with c false true h = sym h
blank_with c false false h = sym h

not_true : (b : Bool) → not b ≡ true → b ≡ false
not_true true h = sym h
not_true false h = refl

-- no blank control is among them
no_control : (c : ℕ) (t blank : Bool) → is_clean c ≡ t → (is_whitespace (clean_with c t blank) && is_control (clean_with c t blank)) ≡ false
unfolding is_clean clean_with
no_control c true blank h = not_true (is_whitespace c && is_control c) (and_parts (scalar c) (not (is_whitespace c && is_control c)) h).1
no_control c false true h = refl
no_control c false false h = refl

abbrev Sign : ℕ → ℕ → Type 0
Sign c d = ((is_plain c ≡ false) × (d ≡ c)) ⊎ ((is_plain c ≡ true) × (is_plain d ≡ true))

sign_with : (c : ℕ) (t blank plain : Bool) → is_clean c ≡ t → is_plain c ≡ plain → Sign c (clean_with c t blank)
unfolding clean_with
sign_with c true blank false h e = inl (e, refl)
sign_with c true blank true h e = inr (e, e)
sign_with c false blank false h e = true_is_false (sym (sign_clean c e) ∙ h)
sign_with c false true true h e = inr (e, refl)
sign_with c false false true h e = inr (e, refl)

clean_keeps : KeepsSigns clean
unfolding clean
clean_keeps = record {
  scalar = λ c. scalar_with c (is_clean c) (is_whitespace c) refl;
  blank = λ c. blank_with c (is_clean c) (is_whitespace c) refl;
  sign = λ c. sign_with c (is_clean c) (is_whitespace c) (is_plain c) refl refl;
}

-- ---- their pictures

turning_black : (c : ℕ) → turns_direction c ≡ true → is_whitespace c ≡ false
turning_black c h = grind (arith, nat_tests)

unseen_by : (c : ℕ) (newline control turning : Bool) → turns_direction c ≡ turning → (newline || not (control || turning)) ≡ false → (is_whitespace c && control) ≡ false → is_whitespace c ≡ false
unseen_by c true control turning t h e = true_is_false h
unseen_by c false true turning t h e = and_true (is_whitespace c) e
  where
    and_true : (b : Bool) → (b && true) ≡ false → b ≡ false
    and_true true x = x
    and_true false x = refl
unseen_by c false false true t h e = turning_black c t
unseen_by c false false false t h e = true_is_false h

low_black : (c : ℕ) → c < 32 → is_whitespace (0x2400 + c) ≡ false
low_black c h = grind (arith, nat_tests)

picture_blank : (c : ℕ) (stays low del : Bool) → is_printable_char c ≡ stays → nat_lt c 32 ≡ low → (is_whitespace c && is_control c) ≡ false
    → is_whitespace (cond stays c (cond low (0x2400 + c) (cond del 0x2421 0xFFFD))) ≡ is_whitespace c
picture_blank c true low del h l e = refl
picture_blank c false true del h l e = low_black c (grind (arith, nat_tests)) ∙ sym (unseen_by c (c == 10) (is_control c) (turns_direction c) refl h e)
picture_blank c false false true h l e = sym (unseen_by c (c == 10) (is_control c) (turns_direction c) refl h e)
picture_blank c false false false h l e = sym (unseen_by c (c == 10) (is_control c) (turns_direction c) refl h e)

sign_stays : (c : ℕ) → is_plain c ≡ false → is_printable_char c ≡ true
sign_stays c h = grind (arith, nat_tests)

low_plain : (c : ℕ) → is_plain (0x2400 + c) ≡ true
low_plain c = grind (arith, nat_tests)

picture_plain : (c : ℕ) (stays low del : Bool) → is_plain c ≡ true → is_plain (cond stays c (cond low (0x2400 + c) (cond del 0x2421 0xFFFD))) ≡ true
picture_plain c true low del h = h
picture_plain c false true del h = low_plain c
picture_plain c false false true h = refl
picture_plain c false false false h = refl

picture_sign : (c d : ℕ) → Sign c d → Sign c (picture d)
picture_sign c d (inl h) = inl (h.0, ap picture h.1 ∙ ap (λ t. cond t c (cond (nat_lt c 32) (0x2400 + c) (cond (c == 127) 0x2421 0xFFFD))) (sign_stays c h.0))
picture_sign c d (inr h) = inr (h.0, picture_plain d (is_printable_char d) (nat_lt d 32) (d == 127) h.1)

-- what is shown of such a character
seen : ℕ → ℕ
seen c = picture (clean c)

seen_keeps : KeepsSigns seen
unfolding seen clean
seen_keeps = record {
  scalar = λ c. scalar_by (clean c) (is_printable_char (clean c)) (nat_lt (clean c) 32) (clean c == 127) (clean_keeps.scalar c) refl;
  blank = λ c. picture_blank (clean c) (is_printable_char (clean c)) (nat_lt (clean c) 32) (clean c == 127) refl refl (no_control c (is_clean c) (is_whitespace c) refl) ∙ clean_keeps.blank c;
  sign = λ c. picture_sign c (clean c) (clean_keeps.sign c);
}

-- ---- what is shown of them

no_tab : (c : ℕ) → (is_whitespace c && is_control c) ≡ false → c ≢ 9
no_tab c h e = true_is_false (sym (ap (λ (n : ℕ). is_whitespace n && is_control n) e) ∙ h)

no_return : (c : ℕ) → (is_whitespace c && is_control c) ≡ false → c ≢ 13
no_return c h e = true_is_false (sym (ap (λ (n : ℕ). is_whitespace n && is_control n) e) ∙ h)

shown_map : (begins_line : Bool) (cs : List ℕ) → shown_from begins_line (map clean cs) ≡ map seen cs
unfolding seen clean
shown_map begins_line [] = refl
shown_map begins_line (c ∷ cs) =
    let none = no_control c (is_clean c) (is_whitespace c) refl in
    ap (λ (l : List ℕ). l ++ shown_from (clean c == 10) (map clean cs)) (picture_shown begins_line (clean c) (map clean cs) (no_tab (clean c) none) (no_return (clean c) none))
    ∙ ap (λ (l : List ℕ). picture (clean c) ∷ l) (shown_map (clean c == 10) cs)

shown_put : (cs : List ℕ) → shown_bytes (put clean cs) ≡ put seen cs
shown_put cs = ap (λ l. encode_utf8_all (printable_text l)) (chars_put clean cs clean_keeps) ∙ ap encode_utf8_all (shown_map true cs)

shown_texts : (texts : List (List ℕ)) → map shown_bytes (map (put clean) texts) ≡ map (put seen) texts
shown_texts [] = refl
shown_texts (cs ∷ texts) = ap (λ (l : List ℕ). l ∷ map shown_bytes (map (put clean) texts)) (shown_put cs) ∙ ap (λ (l : List (List ℕ)). put seen cs ∷ l) (shown_texts texts)

shown_runs : (runs : List Run) → map shown_run (map (put_run clean) runs) ≡ map (put_run seen) runs
unfolding put_run
shown_runs [] = refl
shown_runs (run ∷ runs) =
    ap (λ (l : List ℕ). record run { text = l } ∷ map shown_run (map (put_run clean) runs)) (shown_put run.text) ∙ ap (λ (l : List Run). put_run seen run ∷ l) (shown_runs runs)

shown_cells : (cells : List StyledRuns) → map shown_cell (map (put_cell clean) cells) ≡ map (put_cell seen) cells
unfolding put_cell
shown_cells [] = refl
shown_cells (cell ∷ cells) =
    ap (λ (l : List Run). record cell { runs = l } ∷ map shown_cell (map (put_cell clean) cells)) (shown_runs cell.runs) ∙ ap (λ (l : List StyledRuns). put_cell seen cell ∷ l) (shown_cells cells)

shown_line : (line : LineContent) → shown_part (put_part clean line) ≡ put_part seen line
unfolding put_part
shown_line (normal composite) = refl
shown_line (table_row cells) = ap table_row (shown_cells cells)
shown_line (table_rule alignments) = refl
shown_line horizontal_rule = refl

-- ---- the law

clean_stays : (c : ℕ) → scalar c ≡ true → (is_whitespace c && is_control c) ≡ false → clean c ≡ c
unfolding clean is_clean clean_with
clean_stays c s h = ap (λ t. clean_with c t (is_whitespace c)) (and_from (scalar c) (not (is_whitespace c && is_control c)) s (ap not h))

all_clean : (cs : List ℕ) → scalars cs ≡ true → HaveNoWhitespaceControl cs → map clean cs ≡ cs
all_clean [] s h = refl
all_clean (c ∷ cs) s h =
    let both = and_parts (scalar c) (scalars cs) s in
    ap (λ (n : ℕ). n ∷ map clean cs) (clean_stays c both.0 h.0) ∙ ap (λ (l : List ℕ). c ∷ l) (all_clean cs both.1 h.1)

-- a part is the bytes of such characters
part_is : (part : List ℕ) → IsUtf8 part → HaveNoWhitespaceControl (chars part) → part ≡ put clean (chars part)
part_is part utf8 h = sym (encodes-chars part utf8) ∙ ap encode_utf8_all (sym (all_clean (chars part) (scalars-chars part utf8) h))

bar_put : (f : ℕ → ℕ) (cs : List ℕ) → KeepsSigns f → put f (124 ∷ cs) ≡ 124 ∷ put f cs
bar_put f cs k = signs_put f (124 ∷ []) cs k (refl, tt)

shown_bar : (cs : List ℕ) → shown_bytes (124 ∷ put clean cs) ≡ 124 ∷ put seen cs
shown_bar cs = ap shown_bytes (sym (bar_put clean cs clean_keeps)) ∙ shown_put (124 ∷ cs) ∙ bar_put seen cs seen_keeps

characters_keep : (cs : List ℕ) → KeepsItsCells (put clean cs)
characters_keep cs = record {
  texts = ap (cut_cells false) (shown_put cs) ∙ cut_put seen cs false seen_keeps ∙ sym (ap (map shown_bytes) (cut_put clean cs false clean_keeps) ∙ shown_texts (cut_cells false cs));
  cells =
      ap (λ (l : List ℕ). map cell_of (cut_cells false l)) (shown_put cs)
      ∙ part_cells seen cs seen_keeps
      ∙ sym (ap (map shown_cell) (part_cells clean cs clean_keeps) ∙ shown_cells (map char_cell (cut_cells false cs)));
  line = λ carried.
      ap (line_of false carried) (shown_bar cs)
      ∙ bar_is_part carried (put seen cs)
      ∙ part_put seen cs seen_keeps
      ∙ sym (ap shown_part (bar_is_part carried (put clean cs) ∙ part_put clean cs clean_keeps) ∙ shown_line (char_part cs));
}

-- a table's line that is made printable keeps its cells, where no whitespace in it is a control character
pub cells_kept : TableLinesKeepTheirCells
cells_kept part utf8 h = subst KeepsItsCells (sym (part_is part utf8 h)) (characters_keep (chars part))

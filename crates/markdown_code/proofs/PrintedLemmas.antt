-- What is shown of a text of code has no character that a terminal obeys, and is steady.
use Rattle.std.proofs.Common.{◌≡◌, ℕ, zero, suc, ◌<◌, ◌≤◌, ◌-◌, ◌%◌, Bool, true, false, not, ◌&&◌, cond, Option, Some, None, List, [], ◌∷◌, ◌++◌, map, length, drop, length-drop, refl, sym, ap, ◌∙◌, subst, arith, if◌then◌else◌}
use Rattle.std.specs.Prelude.{chars, encode_utf8_all, ◌==◌}
use Rattle.std.specs.Int.{is_in_range}
use Rattle.std.specs.List.{AllByRecursion, list_all}
use Rattle.std.specs.Str.{IsUtf8, NonePass}
use Rattle.std.specs.Str.Lossy.{utf8_lossy}
use Rattle.std.proofs.lemmas.Bool.{and_from, and_parts}
use Rattle.std.proofs.lemmas.Bool.Decides.{nat_tests}
use Rattle.std.proofs.lemmas.Str.{chars-encodes}
use lib.Utf8.{scalars, scalar}
use Rattle.bstr.specs.Utf8.{Decoded, decoded, or_replacement, lossy_chars}
use Rattle.bstr.proofs.lemmas.LossyLemmas.{lossy_chars-utf8_lossy}
use Rattle.bstr.proofs.lemmas.PieceLemmas.{piece-bounds, lossy_chars-step, pieces-nil}
use Rattle.bstr.proofs.lemmas.SoundLemmas.{SpellsChar-decoded}
use Rattle.mad_md.specs.Flagged.{Run, unflagged}
use Rattle.mad_md.specs.Lines.{LineContent}
use Rattle.mad_sections.specs.Sections.{SectionContent}
use Rattle.mad_steady.specs.Kept.{PassesWhatIsMade}
use Rattle.mad_steady.specs.Steady.{steady_text}
use Rattle.mad_steady.proofs.KeptLemmas.{bytes_pass}
use Rattle.mad_steady.proofs.TextLemmas.{bytes_steady, read_again}
use Rattle.markdown_blocks.specs.Lines.{text_lines}
use Rattle.markdown_gutters.specs.Forms.{is_big}
use Rattle.markdown_gutters.specs.declared.forms.Form.TheVariants.{Boxed}
use Rattle.markdown_inlines.specs.Printable.{is_printable, shown_char}
use Rattle.markdown_inlines.proofs.PrintableLemmas.{shown_is}
use Rattle.markdown_lines.specs.Code.{spaces, expanded_char, next_column, expanded, code_text, code_line, code_lines}
use Rattle.markdown_lines.specs.Printed.{is_obeyed, IsPrintedRun, IsPrintedLine, ArePrinted}
use Rattle.markdown_lines.specs.Steady.{steady_run, steady_line, steady_lines, IsSteadyLine, AreSteadyLines}
use Rattle.markdown_lines.specs.Texts.{behind_mark}
use Rattle.markdown_marks.specs.Remaining.{Remaining, whole}
use Rattle.markdown_reader.specs.Mapping.{Mapping, added, list_ended, nothing_shown, passed, shown_part, shown_parts, spaced, with_marks}
use Rattle.markdown_reader.specs.Printed.{ArePrintedSections}
use Rattle.markdown_reader.specs.Steady.{steady_sections, AreSteadySections}
use Rattle.markdown_tones.specs.Fences.{fence_marks}
use Rattle.markdown_code.specs.CodeTexts.{code_sections, fence_lines, fence_sections}
use Rattle.code_words.specs.Words.{language_word}

-- ---- characters that are read of bytes

scalar_read : (o : Option ℕ) → ((c : ℕ) → o ≡ Some c → scalar c ≡ true) → scalar (or_replacement o) ≡ true
scalar_read None h = refl
scalar_read (Some c) h = h c refl

lossy_scalars : (fuel : ℕ) (bs : List ℕ) → length bs ≤ fuel → scalars (lossy_chars bs) ≡ true
lossy_scalars fuel [] few = ap (λ ps. scalars (map (λ (p : Decoded). or_replacement p.char) ps)) pieces-nil
lossy_scalars zero (b ∷ bs) few = absurd (omega arith)
lossy_scalars (suc fuel) (b ∷ bs) few =
    let all = b ∷ bs in
    let first : scalar (or_replacement (decoded all).char) ≡ true = scalar_read (decoded all).char (λ c e. (SpellsChar-decoded all c e).scalar) in
    let rest : scalars (lossy_chars (drop (decoded all).size all)) ≡ true = lossy_scalars fuel (drop (decoded all).size all) (shorter fuel all few (omega arith)) in
    ap scalars (lossy_chars-step all (omega arith)) ∙ ap (λ t. t && scalars (lossy_chars (drop (decoded all).size all))) first ∙ rest
  where
    shorter : (fuel : ℕ) (all : List ℕ) → length all ≤ suc fuel → 0 < length all → length (drop (decoded all).size all) ≤ fuel
    shorter fuel all few some = omega (arith, length-drop (decoded all).size all, piece-bounds all some)

read_scalars : (bs : List ℕ) → scalars (chars (utf8_lossy bs)) ≡ true
read_scalars bs =
    let fine = lossy_scalars (length bs) bs (omega arith) in
    ap scalars (ap chars (sym (lossy_chars-utf8_lossy bs)) ∙ chars-encodes (lossy_chars bs) fine) ∙ fine

-- ---- those of a line of code

-- the characters of a line as they are shown
abbrev characters : ℕ → Remaining → List ℕ
characters column line = spaces column ++ spaces line.pending ++ expanded line.pending (chars (utf8_lossy line.bytes))

-- what holds of a blank and of what is shown of each character holds of all of them
module _ (p : ℕ → Bool) (blank : p 32 ≡ true) (shown : (c : ℕ) → scalar c ≡ true → p (shown_char c) ≡ true) where
  both_all : (xs ys : List ℕ) → list_all p xs ≡ true → list_all p ys ≡ true → list_all p (xs ++ ys) ≡ true
  both_all [] ys a b = b
  both_all (x ∷ xs) ys a b = let both = and_parts (p x) (list_all p xs) a in and_from (p x) (list_all p (xs ++ ys)) both.0 (both_all xs ys both.1 b)

  spaces_all : (n : ℕ) → list_all p (spaces n) ≡ true
  unfolding spaces
  spaces_all zero = refl
  spaces_all (suc n) = and_from (p 32) (list_all p (spaces n)) blank (spaces_all n)

  char_all : (t : Bool) (n c : ℕ) → scalar c ≡ true → list_all p (cond t (spaces n) (shown_char c ∷ [])) ≡ true
  char_all true n c h = spaces_all n
  char_all false n c h = and_from (p (shown_char c)) true (shown c h) refl

  expanded_all : (column : ℕ) (cs : List ℕ) → scalars cs ≡ true → list_all p (expanded column cs) ≡ true
  unfolding expanded
  expanded_all column [] h = refl
  expanded_all column (c ∷ cs) h =
      let both = and_parts (scalar c) (scalars cs) h in
      both_all (expanded_char column c) (expanded (next_column column c) cs) (char_all (c == 9) (4 - column % 4) c both.0) (expanded_all (next_column column c) cs both.1)

  characters_all : (column : ℕ) (line : Remaining) → list_all p (characters column line) ≡ true
  characters_all column line =
      both_all (spaces column ++ spaces line.pending) (expanded line.pending (chars (utf8_lossy line.bytes))) (both_all (spaces column) (spaces line.pending) (spaces_all column) (spaces_all line.pending))
      (expanded_all line.pending (chars (utf8_lossy line.bytes)) (read_scalars line.bytes))

abbrev is_fine : ℕ → Bool
is_fine c = not (is_obeyed c)

shown_scalar : (c : ℕ) → scalar c ≡ true → scalar (shown_char c) ≡ true
shown_scalar c h = grind (arith, nat_tests, h)

printable_fine : (c : ℕ) → is_printable c ≡ true → is_fine c ≡ true
printable_fine c h = grind (arith, nat_tests)

shown_fine : (c : ℕ) → scalar c ≡ true → is_fine (shown_char c) ≡ true
shown_fine c h = printable_fine (shown_char c) (shown_is c)

all_scalars : (cs : List ℕ) → list_all scalar cs ≡ true → scalars cs ≡ true
all_scalars [] h = refl
all_scalars (c ∷ cs) h = let both = and_parts (scalar c) (list_all scalar cs) h in and_from (scalar c) (scalars cs) both.0 (all_scalars cs both.1)

line_scalars : (column : ℕ) (line : Remaining) → scalars (characters column line) ≡ true
line_scalars column line = all_scalars (characters column line) (characters_all scalar refl shown_scalar column line)

line_utf8 : (column : ℕ) (line : Remaining) → IsUtf8 (code_text column line)
unfolding code_text
line_utf8 column line = (characters column line, (line_scalars column line, refl))

line_fine : (column : ℕ) (line : Remaining) → list_all is_fine (chars (code_text column line)) ≡ true
unfolding code_text
line_fine column line = ap (list_all is_fine) (chars-encodes (characters column line) (line_scalars column line)) ∙ characters_all is_fine refl shown_fine column line

-- ---- those of its steady text

fine_range : (c : ℕ) → is_in_range 65 90 c ≡ true → is_fine c ≡ true
fine_range c h = grind (arith, nat_tests)

fine_syllable : (c : ℕ) → is_in_range 0xAC00 0xD7A3 c ≡ true → is_fine c ≡ true
fine_syllable c h = grind (arith, nat_tests)

made_fine : PassesWhatIsMade is_fine
made_fine = record { replacement = refl; khan = refl; lo = refl; letters = fine_range; syllables = fine_syllable }

not_obeyed : (b : Bool) → not b ≡ true → b ≡ false
not_obeyed false h = refl
not_obeyed true h = let no : false ≡ true = h in absurd (cc)

all_none : (cs : List ℕ) → list_all is_fine cs ≡ true → NonePass is_obeyed cs
all_none [] h = tt
all_none (c ∷ cs) h = let both = and_parts (is_fine c) (list_all is_fine cs) h in (not_obeyed (is_obeyed c) both.0, all_none cs both.1)

-- the run that a line is
abbrev run_of : ℕ → Remaining → Run
run_of column line = record { flags = unflagged; text = code_text column line }

run_printed : (column : ℕ) (line : Remaining) → IsPrintedRun (steady_run (run_of column line))
run_printed column line =
    let text = code_text column line in
    let made = encode_utf8_all (steady_text (chars text)) in
    let utf8 = line_utf8 column line in
    let kept : list_all is_fine (steady_text (chars text)) ≡ true = ap (list_all is_fine) (sym (read_again text made utf8 refl)) ∙ bytes_pass is_fine made_fine text made utf8 refl (line_fine column line) in
    (steady_text (chars text), refl, all_none (steady_text (chars text)) kept)

-- ---- lines and sections

by_cond : (P : LineContent → Type 0) (t : Bool) (a b : LineContent) → P a → P b → P (if t then a else b)
by_cond P true a b h k = h
by_cond P false a b h k = k

line_printed : (line : Remaining) → IsPrintedLine (steady_line (code_line 0 line))
line_printed line = by_cond (λ (l : LineContent). IsPrintedLine (steady_line l)) ((line.pending == 0) && (length line.bytes == 0)) _ _ tt (run_printed 0 line, tt)

line_steady : (line : Remaining) → IsSteadyLine (steady_line (code_line 0 line))
line_steady line =
    let text = code_text 0 line in
    by_cond (λ (l : LineContent). IsSteadyLine (steady_line l)) ((line.pending == 0) && (length line.bytes == 0)) _ _ tt (bytes_steady text (encode_utf8_all (steady_text (chars text))) (line_utf8 0 line) refl, tt)

lines_printed : (lines : List Remaining) → ArePrinted (steady_lines (code_lines 0 lines))
unfolding ArePrinted steady_lines code_lines
lines_printed [] = tt
lines_printed (line ∷ lines) = (line_printed line, lines_printed lines)

lines_steady : (lines : List Remaining) → AreSteadyLines (steady_lines (code_lines 0 lines))
unfolding AreSteadyLines steady_lines code_lines
lines_steady [] = tt
lines_steady (line ∷ lines) = (line_steady line, lines_steady lines)

-- what holds of the lines of each of these sections
abbrev OfAll : (List LineContent → Type 0) → List SectionContent → Type 0
OfAll P sections = AllByRecursion (λ (s : SectionContent). P s.lines) sections

one_or_none : (P : List LineContent → Type 0) (t : Bool) (m n : Mapping) → OfAll P (steady_sections m.sections) → OfAll P (steady_sections n.sections) → OfAll P (steady_sections (if t then m else n).sections)
one_or_none P true m n h k = h
one_or_none P false m n h k = k

-- what holds of the lines of a text holds of the section that a fence around it is
fence_has : (P : List LineContent → Type 0) (info text : List ℕ) → P (steady_lines (code_lines 0 (map whole (text_lines text)))) → OfAll P (fence_sections info text)
unfolding fence_sections shown_parts shown_part
fence_has P info text h =
    let lines = code_lines 0 (map whole (text_lines text)) in
    let m : Mapping = with_marks (fence_marks (fence_lines info text)) (list_ended (passed false nothing_shown)) in
    one_or_none P (length lines == 0) m (added Boxed lines [] (spaced m.apart (is_big Boxed) m)) tt (h, tt)

-- no character of what is shown of a text of code is obeyed
pub code_printed : (word text : List ℕ) (sections : List SectionContent) → sections ≡ code_sections word text → ArePrintedSections sections
unfolding ArePrintedSections
code_printed word text sections e =
    let code = behind_mark text in
    subst ArePrintedSections (sym e) (fence_has ArePrinted (language_word word) code (lines_printed (map whole (text_lines code))))

-- and each run of it is steady
pub code_steady : (word text : List ℕ) (sections : List SectionContent) → sections ≡ code_sections word text → AreSteadySections sections
unfolding AreSteadySections
code_steady word text sections e =
    let code = behind_mark text in
    subst AreSteadySections (sym e) (fence_has AreSteadyLines (language_word word) code (lines_steady (map whole (text_lines code))))

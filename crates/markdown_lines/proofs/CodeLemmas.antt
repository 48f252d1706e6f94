-- Spaces and characters of code, one after the other.
use Rattle.std.proofs.Common.{◌≡◌, ℕ, suc, ◌+◌, ◌-◌, ◌%◌, ◌<◌, ◌≤◌, ⊎_elim, Option, Some, None, is_some, false, cond, eqb, List, [], ◌∷◌, ◌++◌, map, get_or, length, refl, sym, ap, subst, ◌∙◌, arith, append_assoc, append-nil}
use Rattle.std.specs.Prelude.{chars, encode_utf8_all}
use Rattle.std.specs.Char.{encode_utf8}
use Rattle.std.specs.Str.{IsUtf8}
use Rattle.std.proofs.StrCases.{chars_of_empty}
use Rattle.std.proofs.lemmas.Bool.{cases_lt}
use Rattle.std.proofs.lemmas.List.{get_or_past}
use Rattle.std.proofs.lemmas.Str.{chars-nil, chars_past_char, encodes-append, encodes-chars}
use Rattle.memchr.specs.Find.{is_byte, IsFirstByte}
use Rattle.markdown_inlines.specs.Plain.{IsShownUpTo}
use Rattle.markdown_inlines.specs.Printable.{shown_char}
use Rattle.markdown_marks.specs.Remaining.{Remaining}
use Rattle.std.specs.Str.Lossy.{utf8_lossy}
use Rattle.markdown_lines.specs.Code.{spaces, expanded_char, next_column, expanded, code_text}
use Rattle.markdown_lines.proofs.CutLemmas.{not_true, apart, first_no, get_or_behind}

spaces_next : (n : ℕ) → encode_utf8_all (spaces (suc n)) ≡ encode_utf8 32 ++ encode_utf8_all (spaces n)
unfolding spaces
spaces_next n = refl

expanded_next : (column c : ℕ) (cs : List ℕ) → expanded column (c ∷ cs) ≡ expanded_char column c ++ expanded (next_column column c) cs
unfolding expanded
expanded_next column c cs = refl

-- one more space is put, and one less is to come
pub spaces_more : (done now : List ℕ) (more : ℕ) → 0 < more → now ≡ done ++ encode_utf8 32 → now ++ encode_utf8_all (spaces (more - 1)) ≡ done ++ encode_utf8_all (spaces more)
spaces_more done now more some is =
    let e : more ≡ suc (more - 1) = omega arith in
    ap (λ (bs : List ℕ). bs ++ encode_utf8_all (spaces (more - 1))) is
    ∙ append_assoc done (encode_utf8 32) (encode_utf8_all (spaces (more - 1)))
    ∙ ap (λ (bs : List ℕ). done ++ bs) (sym (spaces_next (more - 1)))
    ∙ ap (λ (n : ℕ). done ++ encode_utf8_all (spaces n)) (sym e)

-- where no space is to come, all are put
pub spaces_done : (now : List ℕ) (more : ℕ) → more ≡ 0 → now ++ encode_utf8_all (spaces more) ≡ now
unfolding spaces
spaces_done now more e = ap (λ (n : ℕ). now ++ encode_utf8_all (spaces n)) e ∙ append-nil now

-- one more character is put, and those behind it are to come
pub expanded_more : (done shown rest more all : List ℕ) (c column next : ℕ) → IsUtf8 rest → rest ≡ encode_utf8 c ++ more → shown ≡ done ++ encode_utf8_all (expanded_char column c) → next ≡ next_column column c
    → done ++ encode_utf8_all (expanded column (chars rest)) ≡ all → shown ++ encode_utf8_all (expanded next (chars more)) ≡ all
expanded_more done shown rest more all c column next utf8 parts is next_is h =
    let here : List ℕ = expanded_char column c in
    let others : List ℕ = expanded (next_column column c) (chars more) in
    ap (λ (n : ℕ). shown ++ encode_utf8_all (expanded n (chars more))) next_is
    ∙ ap (λ (bs : List ℕ). bs ++ encode_utf8_all others) is
    ∙ append_assoc done (encode_utf8_all here) (encode_utf8_all others)
    ∙ ap (λ (bs : List ℕ). done ++ bs) (sym (encodes-append here others))
    ∙ ap (λ (cs : List ℕ). done ++ encode_utf8_all cs) (sym (expanded_next column c (chars more)))
    ∙ ap (λ (cs : List ℕ). done ++ encode_utf8_all (expanded column cs)) (sym (chars_past_char rest more c utf8 parts))
    ∙ h

-- where no character is to come, all are put
pub expanded_all : (shown rest all : List ℕ) (column : ℕ) → length rest ≡ 0 → shown ++ encode_utf8_all (expanded column (chars rest)) ≡ all → shown ≡ all
unfolding expanded
expanded_all shown rest all column none h = sym (append-nil shown) ∙ sym (ap (λ (cs : List ℕ). shown ++ encode_utf8_all (expanded column cs)) (chars_of_empty rest none)) ∙ h

-- the spaces up to the column, those of a tab, and the characters are the text of a line of code
pub code_is : (zero_text one two three text : List ℕ) (column : ℕ) (line : Remaining) → zero_text ≡ [] → one ≡ zero_text ++ encode_utf8_all (spaces column) → two ≡ one ++ encode_utf8_all (spaces line.pending)
    → text ≡ utf8_lossy line.bytes → three ≡ two ++ encode_utf8_all (expanded line.pending (chars text)) → three ≡ code_text column line
unfolding code_text
code_is zero_text one two three text column line zero_is one_is two_is text_is three_is =
    let cs = expanded line.pending (chars (utf8_lossy line.bytes)) in
    three_is
    ∙ ap (λ (t : List ℕ). two ++ encode_utf8_all (expanded line.pending (chars t))) text_is
    ∙ ap (λ (t : List ℕ). t ++ encode_utf8_all cs) (two_is ∙ ap (λ (t : List ℕ). t ++ encode_utf8_all (spaces line.pending)) (one_is ∙ ap (λ (t : List ℕ). t ++ encode_utf8_all (spaces column)) zero_is))
    ∙ ap (λ (t : List ℕ). t ++ encode_utf8_all cs) (sym (encodes-append (spaces column) (spaces line.pending)))
    ∙ sym (encodes-append (spaces column ++ spaces line.pending) cs)

-- ---- texts without tabs

-- no byte is a tab
abbrev pub HasNoTab : List ℕ → Type 0
HasNoTab text = (k : ℕ) → eqb (get_or text k 0) 9 ≡ false

-- no character is one
abbrev pub AreTabless : List ℕ → Type 0
AreTabless [] = Unit {0}
AreTabless (c ∷ cs) = (eqb c 9 ≡ false) × AreTabless cs

-- a search that finds none
pub no_tab : (bs : List ℕ) (found : Option ℕ) → IsFirstByte (is_byte 9) bs found → is_some found ≡ false → HasNoTab bs
no_tab bs None none e k = ⊎_elim (λ (few : k < length bs). not_true _ (none k (omega arith) few)) (λ (over : length bs ≤ k). ap (λ b. eqb b 9) (get_or_past bs k 0 over)) (cases_lt k (length bs))
no_tab bs (Some at) h e k = absurd (apart e)

tabless : (cs : List ℕ) → HasNoTab (encode_utf8_all cs) → AreTabless cs
tabless [] h = tt
tabless (c ∷ cs) h =
    (first_no c 9 cs (omega arith) (h 0), tabless cs (λ k. ap (λ b. eqb b 9) (sym (get_or_behind (encode_utf8 c) (encode_utf8_all cs) k)) ∙ h (length (encode_utf8 c) + k)))

expanded_plain : (column : ℕ) (cs : List ℕ) → AreTabless cs → expanded column cs ≡ map shown_char cs
unfolding expanded
expanded_plain column [] h = refl
expanded_plain column (c ∷ cs) h =
    ap (λ t. cond t (spaces (4 - column % 4)) (shown_char c ∷ []) ++ expanded (cond t 0 (column % 4 + 1)) cs) h.0 ∙ ap (λ (l : List ℕ). shown_char c ∷ l) (expanded_plain (column % 4 + 1) cs h.1)

-- a text without tabs is put as its characters are shown
pub plain_put : (old new text : List ℕ) (column : ℕ) → IsUtf8 text → HasNoTab text → IsShownUpTo old new text [] → new ≡ old ++ encode_utf8_all (expanded column (chars text))
plain_put old new text column utf8 none s =
    let solid : AreTabless (chars text) = tabless (chars text) (subst HasNoTab (sym (encodes-chars text utf8)) none) in
    let same : chars s.added ≡ map shown_char (chars text) = sym (append-nil (chars s.added)) ∙ ap (λ (l : List ℕ). chars s.added ++ map shown_char l) (sym chars-nil) ∙ s.shown in
    s.bytes ∙ ap (λ (l : List ℕ). old ++ l) (sym (encodes-chars s.added s.utf8) ∙ ap encode_utf8_all (same ∙ sym (expanded_plain column (chars text) solid)))

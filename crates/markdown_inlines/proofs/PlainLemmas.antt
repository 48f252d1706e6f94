-- Texts that go on with what is shown of others.
use Rattle.std.proofs.Common.{◌≡◌, ℕ, zero, suc, true, false, ◌<◌, ◌≤◌, List, [], ◌∷◌, ◌++◌, length, take, drop, map, chars, encode_utf8, refl, sym, ap, subst, ◌∙◌, arith, append_assoc}
use Rattle.std.specs.Str.{IsUtf8, IsCharBoundary, IsAscii}
use Rattle.std.proofs.lemmas.Bool.Decides.{nat_tests}
use Rattle.std.proofs.lemmas.List.{append-nil, map-append, length-append, length-take, length-drop, get_or-take, take-append-drop}
use Rattle.std.proofs.lemmas.Str.{chars-nil, chars-append, chars-IsAscii, chars_past_char, IsUtf8-from_ascii, IsUtf8-append, IsUtf8-past_char, IsUtf8-drop, IsCharBoundary-from_take, length-encode, len_utf8_bounds}
use Rattle.markdown_inlines.specs.Printable.{shown_char}
use Rattle.markdown_inlines.specs.declared.looks.Look.{Look}
use Rattle.markdown_inlines.specs.declared.styled.TextRun.{TextRun}
use Rattle.markdown_inlines.specs.Styled.{Shown, shown_with, goes_on, AreRuns}
use Rattle.markdown_inlines.proofs.StyledLemmas.{IsAdded, text_same, text_other}
use Rattle.markdown_inlines.specs.Plain.{IsPlain, ArePlain, IsShownUpTo}

plain_shown : (c : ℕ) → IsPlain c → shown_char c ≡ c
plain_shown c h = grind (arith, nat_tests, h.0, h.1)

all_shown : (xs : List ℕ) → ArePlain xs 0 (length xs) → map shown_char xs ≡ xs
all_shown [] plain = refl
all_shown (x ∷ xs) plain =
    ap (λ c. c ∷ map shown_char xs) (plain_shown x (plain 0 (omega arith) (omega arith)))
    ∙ ap (λ (l : List ℕ). x ∷ l) (all_shown xs (λ k low high. plain (suc k) (omega arith) (omega (arith, high))))

all_ascii : (xs : List ℕ) → ArePlain xs 0 (length xs) → IsAscii xs
all_ascii [] plain k = omega arith
all_ascii (x ∷ xs) plain zero = let h = plain 0 (omega arith) (omega arith) in omega (arith, h.1)
all_ascii (x ∷ xs) plain (suc k) = all_ascii xs (λ j low high. plain (suc j) (omega arith) (omega (arith, high))) k

taken_plain : (bs : List ℕ) (n : ℕ) → n ≤ length bs → ArePlain bs 0 n → ArePlain (take n bs) 0 (length (take n bs))
taken_plain bs n inside plain k low high =
    let less : k < n = omega (arith, high, length-take n bs) in
    subst IsPlain (sym (get_or-take n bs k 0 less)) (plain k low less)

-- a character begins where plain bytes end
pub border : (bs : List ℕ) (n : ℕ) → IsUtf8 bs → n ≤ length bs → ArePlain bs 0 n → IsCharBoundary bs n
border bs n utf8 inside plain = IsCharBoundary-from_take bs n utf8 inside (IsUtf8-from_ascii (take n bs) (all_ascii (take n bs) (taken_plain bs n inside plain)))

-- plain bytes in front are shown as they are
pub front_shown : (old new bs front rest : List ℕ) (n : ℕ) → IsUtf8 bs → n ≤ length bs → ArePlain bs 0 n → front ≡ take n bs → rest ≡ drop n bs → new ≡ old ++ front → IsShownUpTo old new bs rest
front_shown old new bs front rest n utf8 inside plain f r is =
    let t : List ℕ = take n bs in
    let d : List ℕ = drop n bs in
    let plains : ArePlain t 0 (length t) = taken_plain bs n inside plain in
    let ascii : IsAscii t = all_ascii t plains in
    let taken : IsUtf8 t = IsUtf8-from_ascii t ascii in
    let cs : chars bs ≡ t ++ chars d = ap chars (sym (take-append-drop n bs)) ∙ chars-append t d taken ∙ ap (λ (l : List ℕ). l ++ chars d) (chars-IsAscii t ascii) in
    let mapped : map shown_char (chars bs) ≡ t ++ map shown_char (chars d) =
    ap (map shown_char) cs ∙ map-append shown_char t (chars d) ∙ ap (λ (l : List ℕ). l ++ map shown_char (chars d)) (all_shown t plains) in
    record {
      added = t;
      bytes = is ∙ ap (λ (l : List ℕ). old ++ l) f;
      utf8 = taken;
      left = subst IsUtf8 (sym r) (IsUtf8-drop bs n utf8 (border bs n utf8 inside plain));
      many = omega (arith, ap length r, length-drop n bs, length-take n bs);
      shown = ap (λ (l : List ℕ). l ++ map shown_char (chars rest)) (chars-IsAscii t ascii) ∙ ap (λ (l : List ℕ). t ++ map shown_char (chars l)) r ∙ sym mapped;
    }

-- the character in front is shown, and what is behind it is left
pub one_shown : (old new bs rest : List ℕ) (c : ℕ) → IsUtf8 bs → IsUtf8 (encode_utf8 (shown_char c)) → bs ≡ encode_utf8 c ++ rest → new ≡ old ++ encode_utf8 (shown_char c) → IsShownUpTo old new bs rest
one_shown old new bs rest c utf8 one parts is =
    let e : List ℕ = encode_utf8 (shown_char c) in
    let cs : chars e ≡ shown_char c ∷ [] = chars_past_char e [] (shown_char c) one (sym (append-nil e)) ∙ ap (λ (l : List ℕ). shown_char c ∷ l) chars-nil in
    record {
      added = e;
      bytes = is;
      utf8 = one;
      left = IsUtf8-past_char bs rest c utf8 parts;
      many = omega (arith, ap length parts, length-append (encode_utf8 c) rest, length-encode c, length-encode (shown_char c), (len_utf8_bounds c).1, (len_utf8_bounds (shown_char c)).0);
      shown = ap (λ (l : List ℕ). l ++ map shown_char (chars rest)) cs ∙ sym (ap (map shown_char) (chars_past_char bs rest c utf8 parts));
    }

-- what is shown of one part and then of the next is shown of both
pub both_shown : (old mid new text bs rest : List ℕ) → IsShownUpTo old mid text bs → IsShownUpTo mid new bs rest → IsShownUpTo old new text rest
both_shown old mid new text bs rest a b = record {
  added = a.added ++ b.added;
  bytes = b.bytes ∙ ap (λ (l : List ℕ). l ++ b.added) a.bytes ∙ append_assoc old a.added b.added;
  utf8 = IsUtf8-append a.added b.added a.utf8 b.utf8;
  left = b.left;
  many = omega (arith, a.many, b.many, length-append a.added b.added);
  shown = ap (λ (l : List ℕ). l ++ map shown_char (chars rest)) (chars-append a.added b.added a.utf8)
      ∙ append_assoc (chars a.added) (chars b.added) (map shown_char (chars rest))
      ∙ ap (λ (l : List ℕ). chars a.added ++ l) b.shown ∙ a.shown;
}

-- what is behind an old text where all of another is shown
pub record IsTextShown (added text : List ℕ) : Type 0 where
  pub is : chars added ≡ map shown_char (chars text)
  pub some : 0 < length text → 0 < length added

-- where nothing is left, all of the text is shown
pub all_of : (old new text : List ℕ) (s : IsShownUpTo old new text []) → IsTextShown s.added text
all_of old new text s = record {
  is = sym (append-nil (chars s.added)) ∙ ap (λ (l : List ℕ). chars s.added ++ map shown_char l) (sym chars-nil) ∙ s.shown;
  some = λ h. omega (arith, s.many, h);
}

-- ---- one text more of a text of runs

-- a text that looks as the last run does goes on in it
pub shown_same : (rs : List TextRun) (old new text : List ℕ) (look : Look) → IsShownUpTo old new text [] → goes_on look rs ≡ true → AreRuns rs old → IsAdded rs rs old new (map (shown_with look) (map shown_char (chars text)))
shown_same rs old new text look s on are =
    subst (λ (l : List ℕ). IsAdded rs rs old new (map (shown_with look) l)) (all_of old new text s).is (text_same rs old new s.added look s.utf8 s.bytes on are)

-- a text that looks otherwise begins a run
pub shown_other : (rs more : List TextRun) (old new text : List ℕ) (start : ℕ) (look : Look) → IsShownUpTo old new text [] → 0 < length text → start ≡ length old → more ≡ record { start = start; look = look } ∷ rs
    → goes_on look rs ≡ false → AreRuns rs old → IsAdded rs more old new (map (shown_with look) (map shown_char (chars text)))
shown_other rs more old new text start look s some at m on are =
    let all = all_of old new text s in
    subst (λ (l : List ℕ). IsAdded rs more old new (map (shown_with look) l)) all.is (text_other rs more old new s.added start look s.utf8 (all.some some) s.bytes at m on are)

-- an empty text adds nothing
pub shown_none : (now : List Shown) (text : List ℕ) (look : Look) → length text ≡ 0 → now ≡ now ++ map (shown_with look) (map shown_char (chars text))
shown_none now [] look e = sym (append-nil now) ∙ ap (λ (l : List ℕ). now ++ map (shown_with look) (map shown_char l)) (sym chars-nil)
shown_none now (b ∷ bs) look e = absurd (omega (arith, e))

-- Printable texts, character by character.
use Rattle.std.proofs.Common.{◌≡◌, ◌≢◌, ◌↔◌, ℕ, ◌+◌, ◌<◌, ◌==◌, ◌&&◌, nat_lt, Bool, true, false, cond, ⊎_elim, List, [], ◌∷◌, ◌++◌, length, take, drop, refl, ap, sym, ◌∙◌, subst, arith, length-append, append_assoc, append-nil}
use Rattle.std.specs.Prelude.{encode_utf8, encode_utf8_all}
use Rattle.std.specs.Str.{chars, IsUtf8}
use Rattle.std.proofs.Math.Utf8.{scalars, scalar}
use Rattle.std.proofs.Math.Seq.{drop-append_seam, take-append_seam}
use Rattle.std.proofs.lemmas.Bool.{cases_eq, and_parts, and_from}
use Rattle.std.proofs.lemmas.Bool.Decides.{nat_tests}
use Rattle.std.proofs.lemmas.List.Folds.{list_all-append}
use Rattle.std.proofs.lemmas.Str.{IsUtf8-past_char, chars_past_char, chars-encodes, encodes-chars, encodes-append, scalars-chars, length-encode, len_utf8_bounds}
use Rattle.std.proofs.StrCases.{chars_of_empty}
use Rattle.mad_characters.specs.Pictures.{is_printable_char, picture}
use Rattle.mad_characters.proofs.PictureLemmas.{picture_is}
use Rattle.mad_measure.specs.Printable.{are_printable, tab_spaces, return_shown, shown_as, shown_from, printable_text, IsPrintableFront}

-- where true is false, anything follows
pub true_is_false : {A : Type 0} → true ≡ false → A
true_is_false {A} e = absurd (no e)
  where
    no : true ≡ false → ⊥
    no e = cc

-- ---- a printable character stays

no_tab : (c : ℕ) → is_printable_char c ≡ true → (c == 9) ≡ false
no_tab c h = ⊎_elim (λ (same : c ≡ 9). true_is_false (sym h ∙ ap is_printable_char same)) (λ other. grind (arith, nat_tests)) (cases_eq c 9)

no_return : (c : ℕ) → is_printable_char c ≡ true → (c == 13) ≡ false
no_return c h = ⊎_elim (λ (same : c ≡ 13). true_is_false (sym h ∙ ap is_printable_char same)) (λ other. grind (arith, nat_tests)) (cases_eq c 13)

stays : (begins_line : Bool) (c : ℕ) (after : List ℕ) → is_printable_char c ≡ true → shown_as begins_line c after ≡ c ∷ []
stays begins_line c after h =
    ap (λ t. cond t (tab_spaces begins_line) (cond (c == 13) (return_shown after) (picture c ∷ []))) (no_tab c h)
    ∙ ap (λ t. cond t (return_shown after) (picture c ∷ [])) (no_return c h)
    ∙ ap (λ t. cond t c (cond (nat_lt c 32) (0x2400 + c) (cond (c == 127) 0x2421 0xFFFD)) ∷ []) h

-- printable characters stay
pub all_stay : (begins_line : Bool) (cs : List ℕ) → are_printable cs ≡ true → shown_from begins_line cs ≡ cs
all_stay begins_line [] h = refl
all_stay begins_line (c ∷ cs) h =
    let both = and_parts (is_printable_char c) (are_printable cs) h in
    ap (λ shown. shown ++ shown_from (c == 10) cs) (stays begins_line c cs both.0) ∙ ap (λ rest. c ∷ rest) (all_stay (c == 10) cs both.1)

-- ---- what stands for a character is printable, and a character

alone : (b : Bool) → b ≡ true → (b && true) ≡ true
alone b h = and_from b true h refl

scalar_picture : (c : ℕ) → c < 32 → scalar (0x2400 + c) ≡ true
scalar_picture c h = grind (arith, nat_tests)

-- what stands for a character is a character, in each of the cases
pub scalar_by : (c : ℕ) (stays low del : Bool) → scalar c ≡ true → nat_lt c 32 ≡ low → scalar (cond stays c (cond low (0x2400 + c) (cond del 0x2421 0xFFFD))) ≡ true
scalar_by c true low del h l = h
scalar_by c false true del h l = scalar_picture c (grind (arith, nat_tests))
scalar_by c false false true h l = refl
scalar_by c false false false h l = refl

-- a list of characters that are printable and characters
record AreShown (cs : List ℕ) : Type 0 where
  printable : are_printable cs ≡ true
  scalars : scalars cs ≡ true

return_by : (newline : Bool) → AreShown (cond newline [] (0x240D ∷ []))
return_by true = record { printable = refl; scalars = refl }
return_by false = record { printable = refl; scalars = refl }

return_is : (after : List ℕ) → AreShown (return_shown after)
return_is [] = record { printable = refl; scalars = refl }
return_is (next ∷ after) = return_by (next == 10)

tab_is : (begins_line : Bool) → AreShown (tab_spaces begins_line)
tab_is true = record { printable = refl; scalars = refl }
tab_is false = record { printable = refl; scalars = refl }

shown_by : (begins_line : Bool) (c : ℕ) (after : List ℕ) (tab return : Bool) → scalar c ≡ true → AreShown (cond tab (tab_spaces begins_line) (cond return (return_shown after) (picture c ∷ [])))
shown_by begins_line c after true return h = tab_is begins_line
shown_by begins_line c after false true h = return_is after
shown_by begins_line c after false false h = record {
  printable = alone _ (picture_is c);
  scalars = alone _ (scalar_by c (is_printable_char c) (nat_lt c 32) (c == 127) h refl);
}

scalars-append : (cs ds : List ℕ) → scalars cs ≡ true → scalars ds ≡ true → scalars (cs ++ ds) ≡ true
scalars-append [] ds h k = k
scalars-append (c ∷ cs) ds h k = let both = and_parts (scalar c) (scalars cs) h in and_from (scalar c) (scalars (cs ++ ds)) both.0 (scalars-append cs ds both.1 k)

joined_shown : (cs ds : List ℕ) → AreShown cs → AreShown ds → AreShown (cs ++ ds)
joined_shown cs ds h k = record {
  printable = list_all-append is_printable_char cs ds ∙ and_from (are_printable cs) (are_printable ds) h.printable k.printable;
  scalars = scalars-append cs ds h.scalars k.scalars;
}

shown_is : (begins_line : Bool) (cs : List ℕ) → scalars cs ≡ true → AreShown (shown_from begins_line cs)
shown_is begins_line [] h = record { printable = refl; scalars = refl }
shown_is begins_line (c ∷ cs) h =
    let both = and_parts (scalar c) (scalars cs) h in
    joined_shown (shown_as begins_line c cs) (shown_from (c == 10) cs) (shown_by begins_line c cs (c == 9) (c == 13) both.0) (shown_is (c == 10) cs both.1)

-- the printable text for characters is printable
pub shown_printable : (cs : List ℕ) → scalars cs ≡ true → are_printable (printable_text cs) ≡ true
shown_printable cs h = (shown_is true cs h).printable

-- so is it read from its bytes
pub bytes_printable : (text bytes : List ℕ) → IsUtf8 text → bytes ≡ encode_utf8_all (printable_text (chars text)) → are_printable (chars bytes) ≡ true
bytes_printable text bytes utf8 is =
    let shown = shown_is true (chars text) (scalars-chars text utf8) in
    ap are_printable (ap chars is ∙ chars-encodes (printable_text (chars text)) shown.scalars) ∙ shown.printable

-- exactly the printable texts stay
pub unchanged : (text : List ℕ) (b : Bool) → IsUtf8 text → b ≡ are_printable (chars text) → (b ≡ true) ↔ (printable_text (chars text) ≡ chars text)
unchanged text b utf8 is = (
  λ h. all_stay true (chars text) (sym is ∙ h),
  λ same. is ∙ sym (ap are_printable same) ∙ shown_printable (chars text) (scalars-chars text utf8),
)

-- ---- a printable front

-- The text is `front`, of so many bytes, and `rest`. The front is printable, and stays.
pub record FrontSoFar (text rest : List ℕ) (bytes : ℕ) (begins_line : Bool) : Type 0 where
  pub utf8 : IsUtf8 rest
  pub front : List ℕ
  pub parts : text ≡ front ++ rest
  pub counts : bytes ≡ length front
  pub shown : encode_utf8_all (printable_text (chars text)) ≡ front ++ encode_utf8_all (shown_from begins_line (chars rest))
  pub all : are_printable (chars text) ≡ are_printable (chars rest)

-- before the first byte the front is empty, and what comes after it begins a line
pub front_none : (text : List ℕ) → IsUtf8 text → FrontSoFar text text 0 true
front_none text utf8 = record { utf8 = utf8; front = []; parts = refl; counts = refl; shown = refl; all = refl }

-- the front goes on with a printable character
pub front_more : (text rest more : List ℕ) (bytes next c : ℕ) (begins_line : Bool) → FrontSoFar text rest bytes begins_line → rest ≡ encode_utf8 c ++ more → next ≡ bytes + length (encode_utf8 c)
    → is_printable_char c ≡ true → FrontSoFar text more next (c == 10)
front_more text rest more bytes next c begins_line held parts counts stays_here =
    let cs : chars rest ≡ c ∷ chars more = chars_past_char rest more c held.utf8 parts in
    record {
      utf8 = IsUtf8-past_char rest more c held.utf8 parts;
      front = held.front ++ encode_utf8 c;
      parts = held.parts ∙ ap (λ (bs : List ℕ). held.front ++ bs) parts ∙ sym (append_assoc held.front (encode_utf8 c) more);
      counts = counts ∙ ap (λ n. n + length (encode_utf8 c)) held.counts ∙ sym (length-append held.front (encode_utf8 c));
      shown =
          held.shown
          ∙ ap (λ ds. held.front ++ encode_utf8_all (shown_from begins_line ds)) cs
          ∙ ap (λ ds. held.front ++ encode_utf8_all (ds ++ shown_from (c == 10) (chars more))) (stays begins_line c (chars more) stays_here)
          ∙ sym (append_assoc held.front (encode_utf8 c) (encode_utf8_all (shown_from (c == 10) (chars more))));
      all = held.all ∙ ap are_printable cs ∙ ap (λ t. t && are_printable (chars more)) stays_here;
    }

rest_of : (text rest : List ℕ) (bytes : ℕ) (begins_line : Bool) → FrontSoFar text rest bytes begins_line → drop bytes text ≡ rest
rest_of text rest bytes begins_line held = ap (λ n. drop n text) held.counts ∙ ap (drop (length held.front)) held.parts ∙ drop-append_seam held.front rest

-- the front ends before a character that isn't printable, or at the text's end
pub front_is : (text rest : List ℕ) (bytes : ℕ) (begins_line whole : Bool) → FrontSoFar text rest bytes begins_line → are_printable (chars rest) ≡ whole → (bytes == length text) ≡ whole → IsPrintableFront text bytes begins_line
front_is text rest bytes begins_line whole held ends counts =
    let left : drop bytes text ≡ rest = rest_of text rest bytes begins_line held in
    let front : take bytes text ≡ held.front = ap (λ n. take n text) held.counts ∙ ap (take (length held.front)) held.parts ∙ take-append_seam held.front rest in
    record {
      rest = subst IsUtf8 (sym left) held.utf8;
      shown = held.shown ∙ ap (λ (bs : List ℕ). bs ++ encode_utf8_all (shown_from begins_line (chars rest))) (sym front) ∙ ap (λ bs. take bytes text ++ encode_utf8_all (shown_from begins_line (chars bs))) (sym left);
      all = held.all ∙ ends ∙ sym counts;
    }

-- the front ends before a character that isn't printable
pub front_stops : (text rest more : List ℕ) (bytes start c : ℕ) (begins_line : Bool) → FrontSoFar text rest bytes begins_line → start ≡ bytes → rest ≡ encode_utf8 c ++ more → is_printable_char c ≡ false → IsPrintableFront text start begins_line
front_stops text rest more bytes start c begins_line held here parts stops =
    let some : 0 < length (encode_utf8 c) = omega (arith, length-encode c, (len_utf8_bounds c).0) in
    let longer : length text ≡ bytes + (length (encode_utf8 c) + length more) =
    ap length (held.parts ∙ ap (λ (bs : List ℕ). held.front ++ bs) parts) ∙ length-append held.front (encode_utf8 c ++ more) ∙ ap (λ n. n + length (encode_utf8 c ++ more)) (sym held.counts) ∙ ap (λ n. bytes + n) (length-append (encode_utf8 c) more) in
    let apart : bytes ≢ length text = omega (arith, longer) in
    subst (λ n. IsPrintableFront text n begins_line) (sym here) (front_is text rest bytes begins_line false held (ap are_printable (chars_past_char rest more c held.utf8 parts) ∙ ap (λ t. t && are_printable (chars more)) stops) (grind (arith, nat_tests, apart)))

-- the front is the whole text where nothing comes after it
pub front_all : (text rest : List ℕ) (bytes : ℕ) (begins_line : Bool) → FrontSoFar text rest bytes begins_line → length rest ≡ 0 → IsPrintableFront text (length text) begins_line
front_all text rest bytes begins_line held none =
    let end : bytes ≡ length text = held.counts ∙ sym (ap length held.parts ∙ length-append held.front rest ∙ ap (λ n. length held.front + n) none ∙ omega arith) in
    subst (λ n. IsPrintableFront text n begins_line) end (front_is text rest bytes begins_line true held (ap are_printable (chars_of_empty rest none)) (grind (arith, nat_tests, end)))

-- a text that is all of its front stays
pub whole_stays : (text : List ℕ) (bytes : ℕ) (begins_line : Bool) → IsUtf8 text → IsPrintableFront text bytes begins_line → bytes ≡ length text → text ≡ encode_utf8_all (printable_text (chars text))
whole_stays text bytes begins_line utf8 front end =
    let stay : are_printable (chars text) ≡ true = front.all ∙ grind (arith, nat_tests, end) in
    sym (ap encode_utf8_all (all_stay true (chars text) stay) ∙ encodes-chars text utf8)

-- ---- what stands for a text

-- a carriage return before another character than a newline
pub return_before : (after rest : List ℕ) (c : ℕ) → IsUtf8 after → after ≡ encode_utf8 c ++ rest → c ≢ 10 → 226 ∷ 144 ∷ 141 ∷ [] ≡ encode_utf8_all (return_shown (chars after))
unfolding lib.Utf8.encode
return_before after rest c utf8 parts other =
    let test : (c == 10) ≡ false = grind (arith, nat_tests) in
    sym (ap (λ cs. encode_utf8_all (return_shown cs)) (chars_past_char after rest c utf8 parts) ∙ ap (λ t. encode_utf8_all (cond t [] (0x240D ∷ []))) test)

-- one character more
pub shown_more : (done shown rest more all : List ℕ) (c : ℕ) (begins_line : Bool) → IsUtf8 rest → rest ≡ encode_utf8 c ++ more → shown ≡ done ++ encode_utf8_all (shown_as begins_line c (chars more))
    → done ++ encode_utf8_all (shown_from begins_line (chars rest)) ≡ all → shown ++ encode_utf8_all (shown_from (c == 10) (chars more)) ≡ all
shown_more done shown rest more all c begins_line utf8 parts is h =
    let here : List ℕ = shown_as begins_line c (chars more) in
    let others : List ℕ = shown_from (c == 10) (chars more) in
    ap (λ (bs : List ℕ). bs ++ encode_utf8_all others) is
    ∙ append_assoc done (encode_utf8_all here) (encode_utf8_all others)
    ∙ ap (λ (bs : List ℕ). done ++ bs) (sym (encodes-append here others))
    ∙ ap (λ cs. done ++ encode_utf8_all (shown_from begins_line cs)) (sym (chars_past_char rest more c utf8 parts))
    ∙ h

-- where nothing of the text is left, what was shown is all
pub shown_all : (shown rest all : List ℕ) (begins_line : Bool) → length rest ≡ 0 → shown ++ encode_utf8_all (shown_from begins_line (chars rest)) ≡ all → shown ≡ all
shown_all shown rest all begins_line none h = sym (append-nil shown) ∙ sym (ap (λ cs. shown ++ encode_utf8_all (shown_from begins_line cs)) (chars_of_empty rest none)) ∙ h

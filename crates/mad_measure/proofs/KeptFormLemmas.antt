-- Printable texts keep the form of their lines.
use Rattle.std.proofs.Common.{◌≡◌, ◌≢◌, ℕ, ◌+◌, ◌<◌, ◌≤◌, ◌/◌, ◌==◌, nat_lt, Bool, true, false, cond, List, [], ◌∷◌, ◌++◌, refl, ap, sym, ◌∙◌, arith, append_assoc}
use Rattle.std.specs.Prelude.{encode_utf8, encode_utf8_all}
use Rattle.std.specs.List.{AllByRecursion}
use Rattle.std.proofs.lemmas.Bool.Decides.{nat_tests}
use Rattle.std.proofs.lemmas.Str.{encode_ascii}
use Rattle.mad_md.specs.Starts.{is_fence, line_start}
use Rattle.mad_md.proofs.FormFronts.{is_ascii, front, front_with, front_append, start_front, fence_front, tab_is_code, spaces_are_code}
use Rattle.mad_characters.specs.Pictures.{is_printable_char, picture}
use Rattle.mad_measure.specs.Printable.{tab_spaces, return_shown, shown_as, shown_from, printable_text}
use Rattle.mad_measure.specs.KeptForms.{AreOnOneLine, TextsArePrintableByLines, IsOfSameForm, LinesKeepTheirForm, TabsInFrontStayCode}

-- lines with one front are of one form
same_form : (line shown : List ℕ) → front shown ≡ front line → IsOfSameForm line shown
same_form line shown e = record { start = sym (start_front shown) ∙ ap line_start e ∙ start_front line; fence = sym (fence_front shown) ∙ ap is_fence e ∙ fence_front line }

-- ---- the front of what stands for a line

lead_is : (n k : ℕ) → 128 ≤ k → is_ascii (k + n) ≡ false
lead_is n k h = grind (arith, nat_tests)

lead_by : (c : ℕ) (x y z : List ℕ) (l₁ l₂ l₃ n₁ n₂ n₃ : ℕ) (rest : List ℕ) (t u v : Bool) → 128 ≤ l₁ → 128 ≤ l₂ → 128 ≤ l₃ → is_ascii c ≡ false
    → front (cond t (c ∷ []) (cond u ((l₁ + n₁) ∷ x) (cond v ((l₂ + n₂) ∷ y) ((l₃ + n₃) ∷ z))) ++ rest) ≡ 0 ∷ []
lead_by c x y z l₁ l₂ l₃ n₁ n₂ n₃ rest true u v h₁ h₂ h₃ e = ap (front_with c (front rest)) e
lead_by c x y z l₁ l₂ l₃ n₁ n₂ n₃ rest false true v h₁ h₂ h₃ e = ap (front_with (l₁ + n₁) (front (x ++ rest))) (lead_is n₁ l₁ h₁)
lead_by c x y z l₁ l₂ l₃ n₁ n₂ n₃ rest false false true h₁ h₂ h₃ e = ap (front_with (l₂ + n₂) (front (y ++ rest))) (lead_is n₂ l₂ h₂)
lead_by c x y z l₁ l₂ l₃ n₁ n₂ n₃ rest false false false h₁ h₂ h₃ e = ap (front_with (l₃ + n₃) (front (z ++ rest))) (lead_is n₃ l₃ h₃)

-- a text that begins with no ASCII character
lead_front : (c : ℕ) (rest : List ℕ) → is_ascii c ≡ false → front (encode_utf8 c ++ rest) ≡ 0 ∷ []
unfolding lib.Utf8.encode
lead_front c rest e = lead_by c _ _ _ 192 224 240 (c / 64) (c / 4096) (c / 262144) rest (nat_lt c 128) (nat_lt c 2048) (nat_lt c 65536) (omega arith) (omega arith) (omega arith) e

is_other : (c : ℕ) → is_printable_char c ≡ false → c ≢ 9 → is_ascii c ≡ false
is_other c h tab = grind (arith, nat_tests)

low_other : (c : ℕ) → c < 32 → is_ascii (0x2400 + c) ≡ false
low_other c h = grind (arith, nat_tests)

picture_by : (c : ℕ) (low del : Bool) → nat_lt c 32 ≡ low → is_ascii (cond low (0x2400 + c) (cond del 0x2421 0xFFFD)) ≡ false
picture_by c true del l = low_other c (grind (arith, nat_tests))
picture_by c false true l = refl
picture_by c false false l = refl

char_by : (c : ℕ) (rest shown : List ℕ) (stays : Bool) → c ≢ 9 → is_printable_char c ≡ stays → front shown ≡ front rest
    → front (encode_utf8 (cond stays c (cond (nat_lt c 32) (0x2400 + c) (cond (c == 127) 0x2421 0xFFFD))) ++ shown) ≡ front (encode_utf8 c ++ rest)
char_by c rest shown true tab h e = front_append (encode_utf8 c) shown rest e
char_by c rest shown false tab h e = lead_front _ shown (picture_by c (nat_lt c 32) (c == 127) refl) ∙ sym (lead_front c rest (is_other c h tab))

test_false : (a b : ℕ) → a ≢ b → (a == b) ≡ false
test_false a b e = grind (arith, nat_tests)

-- what stands for a character that is no tab and no carriage return
pub picture_shown : (begins_line : Bool) (c : ℕ) (after : List ℕ) → c ≢ 9 → c ≢ 13 → shown_as begins_line c after ≡ picture c ∷ []
picture_shown begins_line c after tab return =
    ap (λ t. cond t (tab_spaces begins_line) (cond (c == 13) (return_shown after) (picture c ∷ []))) (test_false c 9 tab) ∙ ap (λ t. cond t (return_shown after) (picture c ∷ [])) (test_false c 13 return)

shown_front : (begins_line : Bool) (cs : List ℕ) → AreOnOneLine cs → AllByRecursion (λ c. c ≢ 9) cs → front (encode_utf8_all (shown_from begins_line cs)) ≡ front (encode_utf8_all cs)
shown_front begins_line [] h tabs = refl
shown_front begins_line (c ∷ cs) h tabs =
    ap (λ shown. front (encode_utf8_all (shown ++ shown_from (c == 10) cs))) (picture_shown begins_line c cs tabs.0 h.0.1)
    ∙ char_by c (encode_utf8_all cs) (encode_utf8_all (shown_from (c == 10) cs)) (is_printable_char c) tabs.0 refl (shown_front (c == 10) cs h.1 tabs.1)

-- a line without tabs keeps its form where it is made printable
pub forms_kept : LinesKeepTheirForm
forms_kept line h tabs = same_form (encode_utf8_all line) (encode_utf8_all (printable_text line)) (shown_front true line h tabs)

-- ---- a tab in front

-- a line with a tab in front keeps its form, which is code
pub tabs_stay_code : TabsInFrontStayCode
tabs_stay_code line =
    ap (λ (bs : List ℕ). (line_start (bs ++ (bs ++ (bs ++ (bs ++ encode_utf8_all (shown_from false line)))))).form) (encode_ascii 32 (omega arith)) ∙ spaces_are_code (encode_utf8_all (shown_from false line))
    ∙ sym (ap (λ (bs : List ℕ). (line_start (bs ++ encode_utf8_all line)).form) (encode_ascii 9 (omega arith)) ∙ tab_is_code (encode_utf8_all line))

-- ---- line by line

-- a character that is no carriage return is shown the same, whatever comes after it
shown_alike : (begins_line : Bool) (c : ℕ) (xs ys : List ℕ) → c ≢ 13 → shown_as begins_line c xs ≡ shown_as begins_line c ys
shown_alike begins_line c xs ys return =
    ap (λ t. cond (c == 9) (tab_spaces begins_line) (cond t (return_shown xs) (picture c ∷ []))) (test_false c 13 return)
    ∙ sym (ap (λ t. cond (c == 9) (tab_spaces begins_line) (cond t (return_shown ys) (picture c ∷ []))) (test_false c 13 return))

line_then : (begins_line : Bool) (line rest shown : List ℕ) → AreOnOneLine line → ((b : Bool) → shown_from b rest ≡ shown) → shown_from begins_line (line ++ rest) ≡ shown_from begins_line line ++ shown
line_then begins_line [] rest shown h e = e begins_line
line_then begins_line (c ∷ line) rest shown h e =
    ap (λ x. x ++ shown_from (c == 10) (line ++ rest)) (shown_alike begins_line c (line ++ rest) line h.0.1)
    ∙ ap (λ x. shown_as begins_line c line ++ x) (line_then (c == 10) line rest shown h.1 e)
    ∙ sym (append_assoc (shown_as begins_line c line) (shown_from (c == 10) line) shown)

-- each line becomes printable by itself, whatever comes after it
pub line_by_line : TextsArePrintableByLines
line_by_line begins_line line rest h = record {
  newline = line_then begins_line line (10 ∷ rest) (10 ∷ printable_text rest) h (λ b. refl);
  return = line_then begins_line line (13 ∷ 10 ∷ rest) (10 ∷ printable_text rest) h (λ b. refl);
  last = line_then begins_line line (13 ∷ []) (10 ∷ []) h (λ b. refl);
}

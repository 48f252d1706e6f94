-- Where pieces end: after a byte of ASCII, or before one. So a text may be cut there.
use Rattle.std.proofs.Common.{◌≡◌, ℕ, ◌+◌, ◌-◌, ◌<◌, ◌≤◌, ◌⊎◌, ⊎_elim, Bool, true, false, cond, eqb, min, List, [], ◌∷◌, ◌++◌, length, take, drop, get_or, refl, sym, ap, subst, ◌∙◌, arith, Some, None, chars, encode_utf8}
use Rattle.std.specs.List.{prefix_len}
use Rattle.std.specs.Str.{IsUtf8, IsCharBoundary}
use Rattle.std.proofs.lemmas.Bool.{cases_lt, eqb-true, eq-eqb}
use Rattle.std.proofs.Math.Seq.{drop-append_seam, take-append_seam}
use Rattle.std.proofs.lemmas.List.{length-append, length-drop, get_or-drop, append-nil}
use Rattle.std.proofs.lemmas.List.Sums.{prefix_len_passes, prefix_len-le-length}
use Rattle.std.proofs.lemmas.Str.{chars-nil, chars-append, chars_past_char, IsUtf8-drop, IsCharBoundary-end, IsCharBoundary-before_ascii, IsCharBoundary-after_ascii, IsCharBoundary-from_take}
use Rattle.markdown_marks.specs.Bytes.{first, count_in_front}
use Rattle.markdown_pieces.specs.Pieces.{last_after, last_char}

-- ---- the last character

last_end : (d c : ℕ) (cs : List ℕ) → last_after d (cs ++ c ∷ []) ≡ c
last_end d c [] = refl
last_end d c (x ∷ xs) = last_end x c xs

-- of characters and one more the last is that one
pub last_push : (c : ℕ) (cs : List ℕ) → last_char (cs ++ c ∷ []) ≡ Some c
last_push c [] = refl
last_push c (x ∷ xs) = ap Some (last_end x c xs)

-- of a text that ends with this one
pub last_is : (text front : List ℕ) (c : ℕ) → IsUtf8 text → IsUtf8 front → text ≡ front ++ encode_utf8 c → Some c ≡ last_char (chars text)
last_is text front c u f e =
    let many : length text ≡ length front + length (encode_utf8 c) = ap length e ∙ length-append front (encode_utf8 c) in
    let taken : take (length front) text ≡ front = ap (take (length front)) e ∙ take-append_seam front (encode_utf8 c) in
    let dropped : drop (length front) text ≡ encode_utf8 c = ap (drop (length front)) e ∙ drop-append_seam front (encode_utf8 c) in
    let cut : IsCharBoundary text (length front) = IsCharBoundary-from_take text (length front) u (omega (arith, many)) (subst IsUtf8 (sym taken) f) in
    let alone : IsUtf8 (encode_utf8 c) = subst IsUtf8 dropped (IsUtf8-drop text (length front) u cut) in
    let one : chars (encode_utf8 c) ≡ c ∷ [] = chars_past_char (encode_utf8 c) [] c alone (sym (append-nil (encode_utf8 c))) ∙ ap (λ (l : List ℕ). c ∷ l) chars-nil in
    sym (ap last_char (ap chars e ∙ chars-append front (encode_utf8 c) f ∙ ap (λ (l : List ℕ). chars front ++ l) one) ∙ last_push c (chars front))

-- an empty text has no last character
pub last_none : (text : List ℕ) → length text ≡ 0 → None ≡ last_char (chars text)
last_none [] e = sym (ap last_char chars-nil)
last_none (b ∷ bs) e = absurd (omega (arith, e))

-- ---- ends

-- the last of so many bytes is of ASCII, or the next one is
abbrev pub EndsWell : List ℕ → ℕ → Type 0
EndsWell rest more = (get_or rest more 0 < 128) ⊎ (get_or rest (more + 1) 0 < 128)

at_end : (rest : List ℕ) (n : ℕ) → n ≡ length rest → IsCharBoundary rest n
at_end rest n e = subst (λ k. IsCharBoundary rest k) (sym e) (IsCharBoundary-end rest)

at_number : (rest : List ℕ) (m n : ℕ) → m ≡ n → IsCharBoundary rest m → IsCharBoundary rest n
at_number rest m n e h = subst (λ k. IsCharBoundary rest k) e h

well_after : (rest : List ℕ) (more : ℕ) → IsUtf8 rest → 0 < length rest → get_or rest more 0 < 128 → IsCharBoundary rest (min more (length rest - 1) + 1)
well_after rest more u some h =
    ⊎_elim (λ (few : more < length rest). at_number rest (more + 1) (min more (length rest - 1) + 1) (omega arith) (IsCharBoundary-after_ascii rest more u few h))
    (λ (over : length rest ≤ more). at_end rest (min more (length rest - 1) + 1) (omega arith)) (cases_lt more (length rest))

well_before : (rest : List ℕ) (more : ℕ) → 0 < length rest → get_or rest (more + 1) 0 < 128 → IsCharBoundary rest (min more (length rest - 1) + 1)
well_before rest more some h =
    ⊎_elim (λ (few : more + 1 < length rest). at_number rest (more + 1) (min more (length rest - 1) + 1) (omega arith) (IsCharBoundary-before_ascii rest (more + 1) few h))
    (λ (over : length rest ≤ more + 1). at_end rest (min more (length rest - 1) + 1) (omega arith)) (cases_lt (more + 1) (length rest))

-- so a text may be cut after them
pub well : (rest : List ℕ) (more : ℕ) → IsUtf8 rest → 0 < length rest → EndsWell rest more → IsCharBoundary rest (min more (length rest - 1) + 1)
well rest more u some ends = ⊎_elim (λ (h : get_or rest more 0 < 128). well_after rest more u some h) (λ (h : get_or rest (more + 1) 0 < 128). well_before rest more some h) ends

-- ---- runs of one byte

-- a byte begins a run of itself
pub passes_first : (b : ℕ) (bs : List ℕ) (t : Bool) → eqb b b ≡ t → 0 < cond t (1 + prefix_len (λ c. eqb c b) bs) 0
passes_first b bs true h = omega arith
passes_first b bs false h = absurd (no (sym (eq-eqb b b refl) ∙ h))
  where
    no : true ≡ false → ⊥
    no e = cc

-- at least one
pub count_some : (rest : List ℕ) → 0 < length rest → 0 < count_in_front (first rest) rest
unfolding count_in_front
count_some [] h = absurd (omega arith)
count_some (b ∷ bs) h = passes_first b bs (eqb b b) refl

-- no more bytes are in front than there are
pub count_le : (b : ℕ) (rest : List ℕ) → count_in_front b rest ≤ length rest
unfolding count_in_front
count_le b rest = prefix_len-le-length (λ c. eqb c b) rest

-- each of them is this byte
pub count_is : (b : ℕ) (rest : List ℕ) (k : ℕ) → k < count_in_front b rest → get_or rest k 0 ≡ b
unfolding count_in_front
count_is b rest k h = eqb-true (get_or rest k 0) b (prefix_len_passes (λ c. eqb c b) rest k 0 h)

-- a byte of what is left is the text's byte at its place
pub count_within : (rest : List ℕ) (at k : ℕ) (text : List ℕ) → rest ≡ drop at text → get_or rest k 0 ≡ get_or text (at + k) 0
count_within rest at k text e = ap (λ (l : List ℕ). get_or l k 0) e ∙ get_or-drop at text k 0

-- a text may be cut behind a run of marks
pub run_end : (text : List ℕ) (at n : ℕ) → IsUtf8 text → at < length text → get_or text at 0 < 128 → n ≡ count_in_front (first (drop at text)) (drop at text) → IsCharBoundary text (at + n)
run_end text at n u within small e =
    let rest : List ℕ = drop at text in
    let many : length rest ≡ length text - at = length-drop at text in
    let here : first rest ≡ get_or text at 0 = get_or-drop at text 0 0 ∙ ap (λ i. get_or text i 0) (omega arith) in
    let some : 0 < n = omega (arith, e, count_some rest (omega (arith, many))) in
    let last : get_or rest (n - 1) 0 ≡ first rest = count_is (first rest) rest (n - 1) (omega (arith, e, some)) in
    let there : get_or text (at + (n - 1)) 0 ≡ get_or text at 0 = sym (get_or-drop at text (n - 1) 0) ∙ last ∙ here in
    let few : at + (n - 1) < length text = omega (arith, e, some, many, count_le (first rest) rest, within) in
    at_number text (at + (n - 1) + 1) (at + n) (omega (arith, some)) (IsCharBoundary-after_ascii text (at + (n - 1)) u few (omega (arith, there, small)))

-- The inside of a text, and cuts in it.
use Rattle.std.proofs.Common.{◌≡◌, ℕ, ◌+◌, ◌-◌, ◌<◌, ◌≤◌, ◌⊎◌, inl, inr, min, List, [], ◌∷◌, ◌++◌, length, chars, take, drop, slice_range, refl, sym, ap, ◌∙◌, arith, subst}
use Rattle.std.specs.Char.{encode_utf8}
use Rattle.std.specs.Str.{IsUtf8}
use Rattle.std.proofs.StrCases.{chars_of_empty}
use Rattle.std.proofs.lemmas.List.{length-append, length-drop, length-take, take-append-drop, take_at, drop-append-le, drop-drop, take-append-le}
use Rattle.std.proofs.lemmas.Str.{chars-append, chars_past_char, IsUtf8-drop, IsUtf8-take, IsUtf8-between}
use Rattle.mad_measure.specs.TextColumns.{columns}
use Rattle.mad_fitting.specs.CenteredCuts.{IsCenteredCut, inside_chars, middle, middle_start}
use Rattle.mad_fitting.specs.Order.{Serves}
use Rattle.mad_fitting.specs.declared.centered.Cut.{Cut}
use Rattle.mad_fitting.proofs.CenteredLemmas.{last_char_is}
use Rattle.mad_fitting.proofs.FrontLemmas.{columns-append}
use Rattle.mad_fitting.proofs.ShorteningLemmas.{some_chars}

-- ---- a text without its first and its last character

-- a text of no bytes is its own inside
pub inside_none : (text : List ℕ) → length text ≡ 0 → chars text ≡ inside_chars (chars text)
inside_none text none = let no : chars text ≡ [] = chars_of_empty text none in no ∙ sym (ap inside_chars no)

-- a text of one character has nothing inside
pub inside_one : (text others : List ℕ) (c : ℕ) → IsUtf8 text → text ≡ encode_utf8 c ++ others → length others ≡ 0 → chars others ≡ inside_chars (chars text)
inside_one text others c utf8 parts none =
    let no : chars others ≡ [] = chars_of_empty others none in
    let all : chars text ≡ c ∷ [] = chars_past_char text others c utf8 parts ∙ ap (λ cs. c ∷ cs) no in
    no ∙ sym (ap inside_chars all)

-- the inside of a text is what comes between its first and its last character
pub inside_more : (text others inside : List ℕ) (c d : ℕ) → IsUtf8 text → text ≡ encode_utf8 c ++ others → IsUtf8 inside → others ≡ inside ++ encode_utf8 d → IsUtf8 others → chars inside ≡ inside_chars (chars text)
inside_more text others inside c d utf8 parts own ends after =
    let last : chars others ≡ chars inside ++ d ∷ [] = last_char_is others inside d after own ends in
    let all : chars text ≡ c ∷ (chars inside ++ d ∷ []) = chars_past_char text others c utf8 parts ∙ ap (λ cs. c ∷ cs) last in
    let count : length (c ∷ (chars inside ++ d ∷ [])) - 2 ≡ length (chars inside) = omega (arith, length-append (chars inside) (d ∷ [])) in
    sym (ap inside_chars all
    ∙ ap (λ n. take n (chars inside ++ d ∷ [])) count
    ∙ take_at (chars inside) (d ∷ []) (length (chars inside)) refl)

-- ---- a cut takes no more than the inside

columns_cut : (n : ℕ) (cs : List ℕ) → columns (take n cs) + columns (drop n cs) ≡ columns cs
columns_cut n cs = sym (columns-append (take n cs) (drop n cs)) ∙ ap columns (take-append-drop n cs)

taken_within : (n k : ℕ) (xs ys zs : List ℕ) → zs ≡ xs ++ ys → k + n ≤ length xs → take n (drop k zs) ≡ take n (drop k xs)
taken_within n k xs ys zs parts few =
    let after : drop k zs ≡ drop k xs ++ ys = ap (drop k) parts ∙ drop-append-le k xs ys (omega (arith, few)) in
    ap (take n) after ∙ take-append-le n (drop k xs) ys (omega (arith, length-drop k xs, few))

-- the characters that go are all inside, if some go
count_within : (e : ℕ) (text : List ℕ) (cut : Cut) → IsUtf8 text → (g : IsCenteredCut e text cut) → (g.count ≡ 0) ⊎ (g.count + 2 ≤ length (chars text))
count_within e text cut utf8 g = elim g.inside as (λ _. (g.count ≡ 0) ⊎ (g.count + 2 ≤ length (chars text))) [
  | inl none ↦ inl none
  | inr sides ↦
      let front : List ℕ = take cut.start text in
      let back : List ℕ = drop cut.start text in
      let own : List ℕ = slice_range text cut.start cut.end in
      let rest : List ℕ = drop cut.end text in
      let front_utf8 : IsUtf8 front = IsUtf8-take text cut.start utf8 g.first in
      let rest_utf8 : IsUtf8 rest = IsUtf8-drop text cut.end utf8 g.last in
      let own_utf8 : IsUtf8 own = IsUtf8-between text cut.start cut.end utf8 g.order g.first g.last in
      let size : cut.start + (cut.end - cut.start) ≡ cut.end = omega (arith, g.order) in
      let after : drop (cut.end - cut.start) back ≡ rest = drop-drop (cut.end - cut.start) cut.start text ∙ ap (λ n. drop n text) size in
      let parts : front ++ (own ++ rest) ≡ text =
      ap (λ (l : List ℕ). front ++ (own ++ l)) (sym after) ∙ ap (λ (l : List ℕ). front ++ l) (take-append-drop (cut.end - cut.start) back) ∙ take-append-drop cut.start text in
      let cs : chars text ≡ chars front ++ (chars own ++ chars rest) =
      ap chars (sym parts) ∙ chars-append front (own ++ rest) front_utf8 ∙ ap (λ (l : List ℕ). chars front ++ l) (chars-append own rest own_utf8) in
      let total : length (chars text) ≡ length (chars front) + (length (chars own) + length (chars rest)) =
      ap length cs ∙ length-append (chars front) (chars own ++ chars rest) ∙ ap (λ n. length (chars front) + n) (length-append (chars own) (chars rest)) in
      let first : 0 < length (chars front) = some_chars front front_utf8 (omega (arith, length-take cut.start text, sides.0, sides.1, g.order)) in
      let last : 0 < length (chars rest) = some_chars rest rest_utf8 (omega (arith, length-drop cut.end text, sides.1)) in
      let place : length (chars front) ≡ middle_start g.count (chars text) = g.place in
      let among : length (chars own) ≡ min g.count (length (drop (middle_start g.count (chars text)) (chars text))) = ap length g.gone ∙ length-take g.count (drop (middle_start g.count (chars text)) (chars text)) in
      let behind : length (drop (middle_start g.count (chars text)) (chars text)) ≡ length (chars text) - middle_start g.count (chars text) = length-drop (middle_start g.count (chars text)) (chars text) in
      inr (omega (arith, total, first, last, place, among, behind))
]

-- characters in the middle are inside
pub middle_narrow : (n : ℕ) (cs : List ℕ) → n + 2 ≤ length cs → columns (middle n cs) ≤ columns (inside_chars cs)
middle_narrow n cs few =
    let start : ℕ = middle_start n cs in
    let some : 0 < start = omega (arith, few) in
    let short : start + n + 1 ≤ length cs = omega (arith, few) in
    let rest : List ℕ = drop 1 cs in
    let at : start ≡ 1 + (start - 1) = omega (arith, some) in
    let same : drop start cs ≡ drop (start - 1) rest = ap (λ k. drop k cs) at ∙ sym (drop-drop (start - 1) 1 cs) in
    let inside : List ℕ = inside_chars cs in
    let size : length inside ≡ length cs - 2 = omega (arith, length-take (length cs - 2) rest, length-drop 1 cs) in
    let parts : rest ≡ inside ++ drop (length cs - 2) rest = sym (take-append-drop (length cs - 2) rest) in
    let within : take n (drop (start - 1) rest) ≡ take n (drop (start - 1) inside) = taken_within n (start - 1) inside (drop (length cs - 2) rest) rest parts (omega (arith, size, short, some)) in
    omega (
      arith,
      ap (λ l. columns (take n l)) same,
      ap columns within,
      columns_cut n (drop (start - 1) inside),
      columns_cut (start - 1) inside,
    )

-- no more goes than what is inside
pub cut_narrow : (e : ℕ) (text : List ℕ) (cut : Cut) → IsUtf8 text → IsCenteredCut e text cut → cut.columns ≤ columns (inside_chars (chars text))
cut_narrow e text cut utf8 g = elim (count_within e text cut utf8 g) as (λ _. cut.columns ≤ columns (inside_chars (chars text))) [
  | inl none ↦ omega (arith, g.columns_are, ap (λ n. columns (middle n (chars text))) none)
  | inr few ↦ omega (arith, g.columns_are, middle_narrow g.count (chars text) few)
]

-- where more is asked for than is inside, the cut is the same
pub cut_same : (e d : ℕ) (text : List ℕ) (cut : Cut) → IsUtf8 text → IsCenteredCut e text cut → columns (inside_chars (chars text)) ≤ e → columns (inside_chars (chars text)) ≤ d → IsCenteredCut d text cut
cut_same e d text cut utf8 g less enough = record {
  count = g.count;
  place = g.place;
  gone = g.gone;
  columns_are = g.columns_are;
  fewest = λ n fewer. elim (count_within e text cut utf8 g) as (λ _. columns (middle n (chars text)) ≤ d) [
    | inl none ↦ absurd (omega (arith, fewer, none))
    | inr few ↦ omega (arith, middle_narrow n (chars text) (omega (arith, few, fewer)), enough)
  ];
  stops = inr (elim g.stops as (λ _. length (chars text) ≤ g.count + 2) [ inl more ↦ absurd (omega (arith, more, cut_narrow e text cut utf8 g, less)) | inr all ↦ all ]);
  inside = g.inside;
  order = g.order;
  first = g.first;
  last = g.last;
}

-- a cut by what serves is one by what is due
pub cut_serves : (due amount gained : ℕ) (text : List ℕ) (cut : Cut) → IsUtf8 text → gained ≡ columns (inside_chars (chars text)) - 1 → Serves due gained amount → 0 < due → IsCenteredCut amount text cut → IsCenteredCut due text cut
cut_serves due amount gained text cut utf8 is h some g = elim ((h.same some).1) as (λ _. IsCenteredCut due text cut) [
  | inl same ↦ subst (λ e. IsCenteredCut e text cut) same g
  | inr both ↦ cut_same amount due text cut utf8 g (omega (arith, both.1, is)) (omega (arith, both.0, is))
]

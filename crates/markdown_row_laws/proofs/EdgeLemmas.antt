-- Blanks at the ends of characters.
use Rattle.std.proofs.Common.{◌≡◌, ℕ, zero, suc, ◌+◌, ◌-◌, Bool, true, false, not, cond, if◌then◌else◌, List, [], ◌∷◌, ◌++◌, map, length, take, drop, reverse, refl, sym, ap, subst, ◌∙◌, append_assoc, append-nil, arith}
use Rattle.std.proofs.lemmas.List.{length-reverse, map-append, reverse-append, reverse-reverse, take-append-le}
use Rattle.std.proofs.lemmas.List.Elements.{filter-append}
use Rattle.std.specs.List.{prefix_len, suffix_len}
use Rattle.mad_md.specs.Flagged.{FlaggedChar}
use Rattle.markdown_lines.specs.Glyphs.{is_edge, without_front, without_back, trimmed}
use Rattle.markdown_lines.specs.Runs.{flags_said}
use Rattle.markdown_lines.specs.declared.glyphs.Glyph.{Glyph}
use Rattle.markdown_row_laws.specs.Rows.{AreBlank, BeginWithWord, is_word, words}

-- a glyph as a character with its flags
abbrev pub char_said : Glyph → FlaggedChar
char_said g = record { char = g.c; flags = flags_said g.flags }

-- glyphs as characters with their flags
abbrev pub chars_said : List Glyph → List FlaggedChar
chars_said gs = map char_said gs

-- ---- in front

-- the blanks that are in front
abbrev front_of : List Glyph → List Glyph
front_of [] = []
front_of (g ∷ gs) = if is_edge g then g ∷ front_of gs else []

split_by : (t : Bool) (g : Glyph) (gs : List Glyph) → gs ≡ front_of gs ++ without_front gs → g ∷ gs ≡ (if t then g ∷ front_of gs else []) ++ (if t then without_front gs else g ∷ gs)
split_by true g gs h = ap (λ (l : List Glyph). g ∷ l) h
split_by false g gs h = refl

front_split : (gs : List Glyph) → gs ≡ front_of gs ++ without_front gs
unfolding without_front
front_split [] = refl
front_split (g ∷ gs) = split_by (is_edge g) g gs (front_split gs)

blank_by : (t : Bool) (g : Glyph) (gs : List Glyph) → is_edge g ≡ t → AreBlank (chars_said (front_of gs)) → AreBlank (chars_said (if t then g ∷ front_of gs else []))
blank_by true g gs e h = let rest = words (chars_said (front_of gs)) in ap (λ (t : Bool). cond (not t) (char_said g ∷ rest) rest) e ∙ h
blank_by false g gs e h = refl

front_blank : (gs : List Glyph) → AreBlank (chars_said (front_of gs))
front_blank [] = refl
front_blank (g ∷ gs) = blank_by (is_edge g) g gs refl (front_blank gs)

begins_by : (t : Bool) (g : Glyph) (gs : List Glyph) → is_edge g ≡ t → BeginWithWord (chars_said (without_front gs)) → BeginWithWord (chars_said (if t then without_front gs else g ∷ gs))
begins_by true g gs e h = h
begins_by false g gs e h = e

front_begins : (gs : List Glyph) → BeginWithWord (chars_said (without_front gs))
unfolding without_front
front_begins [] = tt
front_begins (g ∷ gs) = begins_by (is_edge g) g gs refl (front_begins gs)

-- ---- at the end

one_more : (n : ℕ) → 1 + n ≡ suc n
one_more n = omega arith

dropped_by : (t : Bool) (g : Glyph) (gs : List Glyph) → drop (prefix_len is_edge gs) gs ≡ without_front gs
    → drop (cond t (1 + prefix_len is_edge gs) 0) (g ∷ gs) ≡ (if t then without_front gs else g ∷ gs)
dropped_by true g gs h = ap (λ (n : ℕ). drop n (g ∷ gs)) (one_more (prefix_len is_edge gs)) ∙ h
dropped_by false g gs h = refl

dropped : (gs : List Glyph) → drop (prefix_len is_edge gs) gs ≡ without_front gs
unfolding without_front
dropped [] = refl
dropped (g ∷ gs) = dropped_by (is_edge g) g gs (dropped gs)

nil_take : (n : ℕ) → take {A = Glyph} n [] ≡ []
nil_take zero = refl
nil_take (suc n) = refl

all_left : (gs : List Glyph) → take (length gs - 0) (reverse gs) ≡ reverse gs
all_left gs = Rattle.std.proofs.lemmas.List.take_all (length gs - 0) (reverse gs) (omega (arith, length-reverse gs))

-- what is left of a list that is turned round, without so many of its last
left_of : (n : ℕ) (gs : List Glyph) → take (length gs - n) (reverse gs) ≡ reverse (drop n gs)
left_of zero gs = all_left gs
left_of (suc n) [] = nil_take (0 - suc n)
left_of (suc n) (g ∷ gs) =
    let less : suc (length gs) - suc n ≡ length gs - n = omega arith in
    ap (λ (k : ℕ). take k (reverse (g ∷ gs))) less ∙ ap (take (length gs - n)) (reverse-append (g ∷ []) gs)
    ∙ take-append-le (length gs - n) (reverse gs) (g ∷ []) (omega (arith, length-reverse gs)) ∙ left_of n gs

back_is : (gs : List Glyph) → without_back gs ≡ reverse (without_front (reverse gs))
unfolding without_back
back_is gs =
    let turned = reverse gs in
    let n = prefix_len is_edge turned in
    let same : take (length turned - n) (reverse turned) ≡ take (length gs - n) gs =
    ap (λ (k : ℕ). take (k - n) (reverse turned)) (length-reverse gs) ∙ ap (take (length gs - n)) (reverse-reverse gs) in
    sym same ∙ left_of n turned ∙ ap reverse (dropped turned)

-- the blanks that are at the end
abbrev back_of : List Glyph → List Glyph
back_of gs = reverse (front_of (reverse gs))

back_split : (gs : List Glyph) → gs ≡ without_back gs ++ back_of gs
back_split gs =
    let turned = reverse gs in
    sym (reverse-reverse gs) ∙ ap reverse (front_split turned) ∙ reverse-append (front_of turned) (without_front turned)
    ∙ ap (λ (l : List Glyph). l ++ back_of gs) (sym (back_is gs))

map_turned : (gs : List Glyph) → chars_said (reverse gs) ≡ reverse (chars_said gs)
map_turned [] = refl
map_turned (g ∷ gs) =
    ap chars_said (reverse-append (g ∷ []) gs) ∙ map-append char_said (reverse gs) (g ∷ [])
    ∙ ap (λ (l : List FlaggedChar). l ++ char_said g ∷ []) (map_turned gs) ∙ sym (reverse-append (char_said g ∷ []) (chars_said gs))

words_turned : (cs : List FlaggedChar) → words (reverse cs) ≡ reverse (words cs)
words_turned [] = refl
words_turned (c ∷ cs) = ap words (reverse-append (c ∷ []) cs) ∙ filter-append is_word (reverse cs) (c ∷ []) ∙ ap (λ (l : List FlaggedChar). l ++ words (c ∷ [])) (words_turned cs) ∙ turned_by (is_word c)
  where
    turned_by : (t : Bool) → reverse (words cs) ++ cond t (c ∷ []) [] ≡ reverse (cond t (c ∷ words cs) (words cs))
    turned_by true = sym (reverse-append (c ∷ []) (words cs))
    turned_by false = append-nil (reverse (words cs))

back_blank : (gs : List Glyph) → AreBlank (chars_said (back_of gs))
back_blank gs =
    let front = front_of (reverse gs) in
    ap words (map_turned front) ∙ words_turned (chars_said front) ∙ ap reverse (front_blank (reverse gs))

back_ends : (gs : List Glyph) → BeginWithWord (reverse (chars_said (without_back gs)))
back_ends gs =
    let turned = without_front (reverse gs) in
    let same : chars_said turned ≡ reverse (chars_said (without_back gs)) =
    sym (ap reverse (ap chars_said (back_is gs) ∙ map_turned turned) ∙ reverse-reverse (chars_said turned)) in
    subst BeginWithWord same (front_begins (reverse gs))

take_begins : (n : ℕ) (gs : List Glyph) → BeginWithWord (chars_said gs) → BeginWithWord (chars_said (take n gs))
take_begins zero [] h = tt
take_begins zero (g ∷ gs) h = tt
take_begins (suc n) [] h = tt
take_begins (suc n) (g ∷ gs) h = h

back_begins : (gs : List Glyph) → BeginWithWord (chars_said gs) → BeginWithWord (chars_said (without_back gs))
unfolding without_back
back_begins gs = take_begins (length gs - suffix_len is_edge gs) gs

-- ---- both ends

-- glyphs, the blanks at whose ends are told apart
pub record IsTrimmed (gs : List Glyph) : Type 0 where
  pub before : List Glyph
  pub after : List Glyph
  pub whole : chars_said gs ≡ chars_said before ++ chars_said (trimmed gs) ++ chars_said after
  pub in_front : AreBlank (chars_said before)
  pub behind : AreBlank (chars_said after)
  pub begins : BeginWithWord (chars_said (trimmed gs))
  pub ends : BeginWithWord (reverse (chars_said (trimmed gs)))

pub trimmed_is : (gs : List Glyph) → IsTrimmed gs
trimmed_is gs =
    let front = front_of gs in
    let middle = without_front gs in
    let split : gs ≡ front ++ (trimmed gs ++ back_of middle) = front_split gs ∙ ap (λ (l : List Glyph). front ++ l) (back_split middle) in
    let whole : chars_said gs ≡ chars_said front ++ chars_said (trimmed gs) ++ chars_said (back_of middle) =
    ap chars_said split ∙ map-append char_said front (trimmed gs ++ back_of middle) ∙ ap (λ (l : List FlaggedChar). chars_said front ++ l) (map-append char_said (trimmed gs) (back_of middle))
    ∙ sym (append_assoc (chars_said front) (chars_said (trimmed gs)) (chars_said (back_of middle))) in
    record { before = front; after = back_of middle; whole = whole; in_front = front_blank gs; behind = back_blank middle; begins = back_begins middle (front_begins gs); ends = back_ends middle }

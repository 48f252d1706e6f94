-- A token that ends before its compound does, and the token after it, are of one word only where that is wider than the limit.
use Rattle.std.proofs.Common.{◌≡◌, ℕ, ◌<◌, ◌+◌, ◌⊎◌, inl, inr, Bool, true, false, List, [], ◌∷◌, ◌++◌, map, nat_le, chars, drop, length, refl, sym, ap, ◌∙◌, arith, subst, if◌then◌else◌}
use Rattle.std.proofs.lemmas.List.{length-append}
use Rattle.mad_md.specs.Flagged.{FlaggedChar, flagged, flags_of}
use Rattle.mad_md.specs.declared.compound.Compound.{Compound}
use Rattle.mad_measure.specs.Tokens.{IsAlike, StopsBefore, IsTokenAt, AreTokensFrom, AreTokensOf, flagged_token}
use Rattle.mad_measure.specs.declared.tokens.Token.{Token}
use Rattle.mad_measure.proofs.TokenTexts.{text_at, some_flagged}
use Rattle.mad_wrap.specs.Words.{alone, together, word_pieces, pieces_after}
use Rattle.mad_wrap.specs.Breaks.{total_width}
use Rattle.mad_wrap.proofs.WordLemmas.{wide_pieces, after_blank, after_solid, wide_blank, wide_solid, after_wide}

-- where a token stops, no other that is alike fits
stops_at : (max w v : ℕ) (b c : Bool) (ys rest : List FlaggedChar) → 0 < length ys → IsAlike max c v ys → StopsBefore max b w (ys ++ rest) → c ≡ b → max < w + v
stops_at max w v b c [] rest some h stops same = absurd (omega arith)
stops_at max w v b c (y ∷ ys) rest some h (inl differs) same = absurd (differs (h.alike.0 ∙ same))
stops_at max w v b c (y ∷ ys) rest some h (inr passes) same = omega (arith, passes, h.counts)

next_passes : (max start : ℕ) (p : Compound) (t u : Token) → IsTokenAt max p start t → IsTokenAt max p t.end_in_compound u → u.blank ≡ t.blank → max < t.width + u.width
next_passes max start p t u h g same =
    let rest = flagged (flags_of p) (chars (drop u.end_in_compound p.src.now)) in
    stops_at max t.width u.width t.blank u.blank (flagged_token u) rest (some_flagged u g.within) g.alike (subst (StopsBefore max t.blank t.width) (text_at max t.end_in_compound p u g) h.stops) same

-- the token ends where its compound does, or it is too wide with the one after it, if that is alike
abbrev pub EndsOrPasses : ℕ → Token → Token → Type 0
EndsOrPasses max t u = (t.end_in_compound ≡ length t.compound.src.now) ⊎ (u.blank ≡ t.blank → max < t.width + u.width)

first_ends : (max start : ℕ) (p : Compound) (own others more : List Token) (t u : Token) → IsTokenAt max p start t → AreTokensFrom max p t.end_in_compound own → own ++ others ≡ u ∷ more → EndsOrPasses max t u
first_ends max start p [] others more t u h from e = inl (omega (arith, from, ap (λ (q : Compound). length q.src.now) h.part_of))
first_ends max start p (o ∷ own) others more t u h from e = let same : o ≡ u = cc in inr (next_passes max start p t u h (subst (IsTokenAt max p t.end_in_compound) same from.0))

ends_from : (max start : ℕ) (p : Compound) (own xs others more : List Token) (t u : Token) → AreTokensFrom max p start own → own ++ others ≡ xs ++ t ∷ u ∷ more → EndsOrPasses max t u ⊎ ((zs : List Token) × (others ≡ zs ++ t ∷ u ∷ more))
ends_from max start p [] xs others more t u from e = inr (xs, e)
ends_from max start p (o ∷ own) [] others more t u from e =
    let same : o ≡ t = cc in
    let tail : own ++ others ≡ u ∷ more = cc in
    inl (first_ends max start p own others more t u (subst (IsTokenAt max p start) same from.0) (subst (λ (x : Token). AreTokensFrom max p x.end_in_compound own) same from.1) tail)
ends_from max start p (o ∷ own) (x ∷ xs) others more t u from e =
    let tail : own ++ others ≡ xs ++ t ∷ u ∷ more = cc in
    ends_from max o.end_in_compound p own xs others more t u from.1 tail

-- a token ends where its compound does, or is too wide with the next one, if that is alike
pub ends_of : (max : ℕ) (ps : List Compound) (xs more : List Token) (t u : Token) → AreTokensOf max ps (xs ++ t ∷ u ∷ more) → EndsOrPasses max t u
ends_of max [] xs more t u h = absurd (omega (arith, ap length h, length-append xs (t ∷ u ∷ more)))
ends_of max (p ∷ ps) xs more t u (own, others, joins, from, rest) =
    elim (ends_from max 0 p own xs others more t u from (sym joins)) as (λ _. EndsOrPasses max t u) [ inl here ↦ here | inr (zs, e) ↦ ends_of max ps zs more t u (subst (AreTokensOf max ps) e rest) ]

-- ---- the pieces from such a token on

one_piece : (t : Token) (b : Bool) → (if b then together (t ∷ []) else map alone (t ∷ [])) ≡ alone t ∷ []
one_piece t true = refl
one_piece t false = refl

lone_word : (limit : ℕ) (t : Token) → word_pieces limit (t ∷ []) ≡ alone t ∷ []
lone_word limit t = one_piece t (nat_le (total_width (t ∷ [])) limit)

lone_by : (limit : ℕ) (t u : Token) (more : List Token) (b : Bool) → u.blank ≡ b → (b ≡ false → limit < t.width + u.width) → pieces_after limit (t ∷ []) (u ∷ more) ≡ alone t ∷ wide_pieces limit (u ∷ more)
lone_by limit t u more true e over = after_blank limit (t ∷ []) more u e ∙ ap (λ l. l ++ (alone u ∷ pieces_after limit [] more)) (lone_word limit t) ∙ ap (λ l. alone t ∷ l) (sym (wide_blank limit more u e))
lone_by limit t u more false e over =
    after_solid limit (t ∷ []) more u e ∙ after_wide limit (t ∷ u ∷ []) more (omega (arith, over refl)) ∙ ap (λ l. alone t ∷ l) (sym (wide_solid limit more u e))

passes_by : (limit : ℕ) (t u : Token) → t.blank ≡ false → (t.end_in_compound ≡ length t.compound.src.now → ⊥) → EndsOrPasses limit t u → u.blank ≡ false → limit < t.width + u.width
passes_by limit t u solid inside (inl ends) e = absurd (inside ends)
passes_by limit t u solid inside (inr passes) e = passes (e ∙ sym solid)

-- a word that begins with a token which ends before its compound does
pub lone_pieces : (limit : ℕ) (ps : List Compound) (xs more : List Token) (t : Token) → AreTokensOf limit ps (xs ++ t ∷ more) → t.blank ≡ false → (t.end_in_compound ≡ length t.compound.src.now → ⊥) → pieces_after limit (t ∷ []) more ≡ alone t ∷ wide_pieces limit more
lone_pieces limit ps xs [] t tokens solid inside = lone_word limit t
lone_pieces limit ps xs (u ∷ more) t tokens solid inside = lone_by limit t u more u.blank refl (passes_by limit t u solid inside (ends_of limit ps xs more t u tokens))

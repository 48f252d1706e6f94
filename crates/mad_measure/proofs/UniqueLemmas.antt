-- A text has one list of tokens.
use Rattle.std.proofs.Common.{◌≡◌, ℕ, ◌<◌, ◌⊎◌, inl, inr, Bool, List, [], ◌∷◌, ◌++◌, map, chars, drop, length, refl, sym, ap, ◌∙◌, arith, subst, encode_utf8_all}
use Rattle.std.proofs.lemmas.List.{length-append}
use Rattle.std.proofs.lemmas.Str.{encodes-chars}
use Rattle.mad_md.specs.Flagged.{Flags, FlaggedChar, flagged, flags_of, is_blank}
use Rattle.mad_md.specs.declared.compound.Compound.{Compound}
use Rattle.mad_measure.specs.Tokens.{IsAlike, StopsBefore, IsTokenAt, AreTokensFrom, AreTokensOf, token_text, flagged_token}
use Rattle.mad_measure.specs.declared.tokens.Token.{Token}
use Rattle.mad_measure.proofs.AllLemmas.{all_back}
use Rattle.mad_measure.proofs.FlaggedLemmas.{width_of-append}
use Rattle.mad_measure.proofs.TokenTexts.{text_at, some_flagged, length-token_text}

-- of two fronts of a list, either they are the same, or one goes on after the other
abbrev pub Fronts : {A : Type 0} → List A → List A → List A → List A → Type 0
Fronts {A} xs r ys s = ((xs ≡ ys) × (r ≡ s)) ⊎ (((y : A) × (zs : List A) × (ys ≡ xs ++ y ∷ zs) × (r ≡ y ∷ (zs ++ s))) ⊎ ((y : A) × (zs : List A) × (xs ≡ ys ++ y ∷ zs) × (s ≡ y ∷ (zs ++ r))))

-- two cuts of one list have such fronts
pub fronts : {A : Type 0} (xs r ys s : List A) → xs ++ r ≡ ys ++ s → Fronts xs r ys s
fronts [] r [] s e = inl (refl, e)
fronts [] r (y ∷ ys) s e = inr (inl (y, ys, refl, e))
fronts (x ∷ xs) r [] s e = inr (inr (x, xs, refl, sym e))
fronts (x ∷ xs) r (y ∷ ys) s e =
    let head : x ≡ y = cc in
    let tail : xs ++ r ≡ ys ++ s = cc in
    elim (fronts xs r ys s tail) as (λ _. Fronts (x ∷ xs) r (y ∷ ys) s) [
      | inl same ↦ inl (cc, same.1)
      | inr (inl (z, zs, more, rest)) ↦ inr (inl (z, zs, cc, rest))
      | inr (inr (z, zs, more, rest)) ↦ inr (inr (z, zs, cc, rest))
    ]

-- no token goes on where another ends
too_long : (max w v : ℕ) (b c : Bool) (xs zs r : List FlaggedChar) (y : FlaggedChar) → 0 < length xs → IsAlike max b w xs → StopsBefore max b w (y ∷ r) → IsAlike max c v (xs ++ y ∷ zs) → ⊥
too_long max w v b c [] zs r y some h stops g = absurd (omega arith)
too_long max w v b c (x ∷ xs) zs r y some h (inl differs) g = differs ((all_back (λ x. is_blank x ≡ c) (x ∷ xs) (y ∷ zs) g.alike).0 ∙ sym g.alike.0 ∙ h.alike.0)
too_long max w v b c (x ∷ xs) zs r y some h (inr passes) g =
    omega (arith, h.counts, g.counts, width_of-append (x ∷ xs) (y ∷ zs), g.within (omega (arith, length-append xs (y ∷ zs))))

-- the characters of a flagged text
pub chars_of_flagged : (f : Flags) (cs : List ℕ) → map (λ (x : FlaggedChar). x.char) (flagged f cs) ≡ cs
chars_of_flagged f [] = refl
chars_of_flagged f (c ∷ cs) = ap (λ l. c ∷ l) (chars_of_flagged f cs)

-- alike tokens are measured alike
same_measures : (max w v : ℕ) (b c : Bool) (xs : List FlaggedChar) → 0 < length xs → IsAlike max b w xs → IsAlike max c v xs → (b ≡ c) × (w ≡ v)
same_measures max w v b c [] some h g = absurd (omega arith)
same_measures max w v b c (x ∷ xs) some h g = (sym h.alike.0 ∙ g.alike.0, h.counts ∙ sym g.counts)

-- a token is what its fields say
same_token : (t u : Token) → t.compound ≡ u.compound → t.blank ≡ u.blank → t.width ≡ u.width → t.start_in_compound ≡ u.start_in_compound → t.end_in_compound ≡ u.end_in_compound → t ≡ u
same_token t u p b w s e =
    ap (λ (x : Compound). record t { compound = x }) p
    ∙ ap (λ (x : Bool). record t { compound = u.compound; blank = x }) b
    ∙ ap (λ (x : ℕ). record t { compound = u.compound; blank = u.blank; width = x }) w
    ∙ ap (λ (x : ℕ). record t { compound = u.compound; blank = u.blank; width = u.width; start_in_compound = x }) s
    ∙ ap (λ (x : ℕ). record u { end_in_compound = x }) e

-- at most one token begins at a byte of a compound
pub first_unique : (max start : ℕ) (p : Compound) (t u : Token) → IsTokenAt max p start t → IsTokenAt max p start u → t ≡ u
first_unique max start p t u h g =
    let f = flags_of p in
    let rest = flagged f (chars (drop t.end_in_compound p.src.now)) in
    let rest' = flagged f (chars (drop u.end_in_compound p.src.now)) in
    let same = sym (text_at max start p t h) ∙ text_at max start p u g in
    elim (fronts (flagged_token t) rest (flagged_token u) rest' same) as (λ _. t ≡ u) [
      | inl both ↦
          let m = same_measures max t.width u.width t.blank u.blank (flagged_token t) (some_flagged t h.within) h.alike (subst (IsAlike max u.blank u.width) (sym both.0) g.alike) in
          let cs : chars (token_text t) ≡ chars (token_text u) = sym (chars_of_flagged (flags_of t.compound) (chars (token_text t))) ∙ ap (map (λ (x : FlaggedChar). x.char)) both.0 ∙ chars_of_flagged (flags_of u.compound) (chars (token_text u)) in
          let bs : token_text t ≡ token_text u = sym (encodes-chars (token_text t) h.within.utf8) ∙ ap encode_utf8_all cs ∙ encodes-chars (token_text u) g.within.utf8 in
          same_token t u (h.part_of ∙ sym g.part_of) m.0 m.1 (h.begins ∙ sym g.begins)
          (omega (arith, ap length bs, length-token_text t h.within, length-token_text u g.within, h.begins, g.begins, h.within.some, g.within.some))
      | inr (inl (y, zs, longer, after)) ↦
          absurd (too_long max t.width u.width t.blank u.blank (flagged_token t) zs (zs ++ rest') y (some_flagged t h.within) h.alike (subst (StopsBefore max t.blank t.width) after h.stops) (subst (IsAlike max u.blank u.width) longer g.alike))
      | inr (inr (y, zs, longer, after)) ↦
          absurd (too_long max u.width t.width u.blank t.blank (flagged_token u) zs (zs ++ rest) y (some_flagged u g.within) g.alike (subst (StopsBefore max u.blank u.width) after g.stops) (subst (IsAlike max t.blank t.width) longer h.alike))
    ]

from_unique : (max start : ℕ) (p : Compound) (ts us : List Token) → AreTokensFrom max p start ts → AreTokensFrom max p start us → ts ≡ us
from_unique max start p [] [] h g = refl
from_unique max start p [] (u ∷ us) h g = absurd (omega (arith, h, g.0.within.some, g.0.begins, g.0.within.end.0, ap (λ (q : Compound). length q.src.now) g.0.part_of))
from_unique max start p (t ∷ ts) [] h g = absurd (omega (arith, g, h.0.within.some, h.0.begins, h.0.within.end.0, ap (λ (q : Compound). length q.src.now) h.0.part_of))
from_unique max start p (t ∷ ts) (u ∷ us) h g =
    let first : t ≡ u = first_unique max start p t u h.0 g.0 in
    let rest = from_unique max t.end_in_compound p ts us h.1 (subst (λ n. AreTokensFrom max p n us) (ap (λ (x : Token). x.end_in_compound) (sym first)) g.1) in
    ap (λ x. x ∷ ts) first ∙ ap (λ l. u ∷ l) rest

-- compounds have one list of tokens at most
pub all_unique : (max : ℕ) (ps : List Compound) (ts us : List Token) → AreTokensOf max ps ts → AreTokensOf max ps us → ts ≡ us
all_unique max [] ts us h g = h ∙ sym g
all_unique max (p ∷ ps) ts us (own, others, joins, first, more) (own', others', joins', first', more') =
    joins ∙ ap (λ l. l ++ others) (from_unique max 0 p own own' first first') ∙ ap (λ l. own' ++ l) (all_unique max ps others others' more more') ∙ sym joins'

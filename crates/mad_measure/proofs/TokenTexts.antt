-- The text of tokens is the text that they are cut from, and each says what is so of itself.
use Rattle.std.proofs.Common.{◌≡◌, ℕ, ◌-◌, ◌<◌, ◌+◌, List, [], ◌∷◌, ◌++◌, chars, length, take, drop, slice_range, refl, sym, ap, ◌∙◌, subst, arith, encode_utf8_all}
use Rattle.std.specs.List.{AllByRecursion}
use Rattle.std.specs.Str.{IsUtf8}
use Rattle.std.proofs.lemmas.Str.{chars-nil, chars-append, encodes-chars}
use Rattle.std.proofs.lemmas.List.{take-append-drop, drop-drop, drop_all, append_assoc, length-take, length-drop, length-map}
use Rattle.mad_md.specs.Flagged.{FlaggedChar, flagged, flags_of, flagged_of, flagged_text}
use Rattle.mad_md.specs.declared.compound.Compound.{Compound}
use Rattle.mad_measure.specs.Tokens.{IsAlike, IsInCompound, IsTokenAt, AreTokensFrom, AreTokensOf, token_text, flagged_token, tokens_text}
use Rattle.mad_measure.specs.declared.tokens.Token.{Token}
use Rattle.mad_measure.proofs.AllLemmas.{all_joined}
use Rattle.mad_md.proofs.FlaggedLemmas.{flagged-append}

-- what follows a position is the token that begins there, and what follows its end
pub text_at : (max start : ℕ) (p : Compound) (t : Token) → IsTokenAt max p start t
    → flagged (flags_of p) (chars (drop start p.src.now)) ≡ flagged_token t ++ flagged (flags_of p) (chars (drop t.end_in_compound p.src.now))
text_at max start p t h =
    let bs = p.src.now in
    let f = flags_of p in
    let n = t.end_in_compound - t.start_in_compound in
    let from = drop t.start_in_compound bs in
    let ends : t.start_in_compound + n ≡ t.end_in_compound = omega (arith, h.within.some) in
    let utf8 : IsUtf8 (take n from) = subst (λ (q : Compound). IsUtf8 (slice_range q.src.now t.start_in_compound t.end_in_compound)) h.part_of h.within.utf8 in
    let own : flagged f (chars (take n from)) ≡ flagged_token t = ap (λ (q : Compound). flagged (flags_of q) (chars (slice_range q.src.now t.start_in_compound t.end_in_compound))) (sym h.part_of) in
    let cut : chars from ≡ chars (take n from) ++ chars (drop n from) = ap chars (sym (take-append-drop n from)) ∙ chars-append (take n from) (drop n from) utf8 in
    let back : drop n from ≡ drop t.end_in_compound bs = drop-drop n t.start_in_compound bs ∙ ap (λ m. drop m bs) ends in
    ap (λ m. flagged f (chars (drop m bs))) (sym h.begins) ∙ ap (flagged f) cut ∙ flagged-append f (chars (take n from)) (chars (drop n from))
    ∙ ap (λ l. l ++ flagged f (chars (drop n from))) own ∙ ap (λ r. flagged_token t ++ flagged f (chars r)) back

-- the text of joined tokens is the text of the first ones and then that of the others
pub tokens_text-append : (xs ys : List Token) → tokens_text (xs ++ ys) ≡ tokens_text xs ++ tokens_text ys
tokens_text-append [] ys = refl
tokens_text-append (x ∷ xs) ys = ap (λ l. flagged_token x ++ l) (tokens_text-append xs ys) ∙ sym (append_assoc (flagged_token x) (tokens_text xs) (tokens_text ys))

-- the text of a compound's tokens from a byte on is its text from there on
pub text_from : (max start : ℕ) (p : Compound) (ts : List Token) → AreTokensFrom max p start ts → tokens_text ts ≡ flagged (flags_of p) (chars (drop start p.src.now))
text_from max start p [] h = sym (ap (λ n. flagged (flags_of p) (chars (drop n p.src.now))) h ∙ ap (λ l. flagged (flags_of p) (chars l)) (drop_all (length p.src.now) p.src.now (omega arith)) ∙ ap (flagged (flags_of p)) chars-nil)
text_from max start p (t ∷ ts) (first, more) = ap (λ l. flagged_token t ++ l) (text_from max t.end_in_compound p ts more) ∙ sym (text_at max start p t first)

-- the tokens' text is the compounds' text
pub text_of_all : (max : ℕ) (ps : List Compound) (ts : List Token) → AreTokensOf max ps ts → tokens_text ts ≡ flagged_text ps
text_of_all max [] ts h = ap tokens_text h
text_of_all max (p ∷ ps) ts (own, others, joins, first, more) =
    ap tokens_text joins ∙ tokens_text-append own others ∙ ap (λ l. l ++ tokens_text others) (text_from max 0 p own first)
    ∙ ap (λ l. flagged_of p ++ l) (text_of_all max ps others more)

-- what a token says of itself is so, and it is some characters of its compound
pub record IsHonest (max : ℕ) (t : Token) : Type 0 where
  pub alike : IsAlike max t.blank t.width (flagged_token t)
  pub within : IsInCompound t

-- what each of a compound's tokens says of itself is so
pub tokens_honest : (max start : ℕ) (p : Compound) (ts : List Token) → AreTokensFrom max p start ts → AllByRecursion (IsHonest max) ts
tokens_honest max start p [] h = tt
tokens_honest max start p (t ∷ ts) (first, more) = (record { alike = first.alike; within = first.within }, tokens_honest max t.end_in_compound p ts more)

-- what each token of the compounds says of itself is so
pub all_honest : (max : ℕ) (ps : List Compound) (ts : List Token) → AreTokensOf max ps ts → AllByRecursion (IsHonest max) ts
all_honest max [] ts h = subst (AllByRecursion (IsHonest max)) (sym h) tt
all_honest max (p ∷ ps) ts (own, others, joins, first, more) =
    subst (AllByRecursion (IsHonest max)) (sym joins) (all_joined (IsHonest max) own others (tokens_honest max 0 p own first) (all_honest max ps others more))

-- a token has a character
pub some_of : (cs bs : List ℕ) → encode_utf8_all cs ≡ bs → 0 < length bs → 0 < length cs
some_of [] bs e h = absurd (omega (arith, ap length e))
some_of (c ∷ cs) bs e h = omega arith

-- a token's text has as many bytes as there are between its ends
pub length-token_text : (t : Token) → IsInCompound t → length (token_text t) ≡ t.end_in_compound - t.start_in_compound
length-token_text t h =
    omega (arith, h.end.0, h.some, length-take (t.end_in_compound - t.start_in_compound) (drop t.start_in_compound t.compound.src.now), length-drop t.start_in_compound t.compound.src.now)

-- a token's flagged text has a character
pub some_flagged : (t : Token) → IsInCompound t → 0 < length (flagged_token t)
some_flagged t h =
    omega (arith, some_of (chars (token_text t)) (token_text t) (encodes-chars (token_text t) h.utf8) (omega (arith, length-token_text t h, h.some)), length-map {B = FlaggedChar} (chars (token_text t)) (λ c. record { char = c; flags = flags_of t.compound }))

-- a compound that isn't empty has a character
pub some_compound : (p : Compound) → IsUtf8 p.src.now → 0 < length p.src.now → 0 < length (flagged_of p)
some_compound p u h =
    omega (arith, some_of (chars p.src.now) p.src.now (encodes-chars p.src.now u) h, length-map {B = FlaggedChar} (chars p.src.now) (λ c. record { char = c; flags = flags_of p }))

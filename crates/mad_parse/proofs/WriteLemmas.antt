-- Writing tokens one by one gives the text of them all.
use Rattle.std.proofs.Common.{◌≡◌, ℕ, ◌+◌, ◌≤◌, ◌<◌, Bool, true, false, List, [], ◌∷◌, ◌++◌, map, filter, length, drop, get_or, refl, sym, ap, ◌∙◌, append-nil, append_assoc, inl, inr}
use Rattle.std.specs.Prelude.{if◌then◌else◌}
use Rattle.std.specs.List.{join_with_byte}
use Rattle.std.proofs.lemmas.List.{drop_all, drop_more}
use Rattle.std.proofs.lemmas.Bool.{cases_Bool, cond-false, cond-true}
use Rattle.mad_parse.specs.Written.{token_text, tokens_text, has_text}
use Rattle.mad_term.specs.declared.attribute.Attribute.{Attribute}
use Rattle.mad_parse.specs.declared.tokens.StyleToken.{StyleToken}
use Rattle.mad_parse.specs.declared.tokens.StyleToken.TheVariants as token

-- a text with a space in front, unless it is the first
abbrev pub after_space : Bool → List ℕ → List ℕ
after_space true text = text
after_space false text = 32 ∷ text

-- the text of more tokens; the flag says whether none was written yet
abbrev pub more_text : Bool → List StyleToken → List ℕ
more_text first [] = []
more_text first (t ∷ ts) = if has_text t then after_space first (token_text t) ++ more_text false ts else more_text first ts

-- the same of tokens that all have a text
abbrev spaced : List StyleToken → List ℕ
spaced [] = []
spaced (t ∷ ts) = 32 ∷ (token_text t ++ spaced ts)

joined : (t : StyleToken) (ts : List StyleToken) → join_with_byte 32 (map token_text (t ∷ ts)) ≡ token_text t ++ spaced ts
joined t [] = sym (append-nil (token_text t))
joined t (u ∷ ts) = ap (λ x. token_text t ++ 32 ∷ x) (joined u ts)

more_spaced : (ts : List StyleToken) → more_text false ts ≡ spaced (filter has_text ts)
more_spaced [] = refl
more_spaced (t ∷ ts) =
    elim (cases_Bool (has_text t)) as (λ _. more_text false (t ∷ ts) ≡ spaced (filter has_text (t ∷ ts))) [
      | inl some ↦
          cond-true (has_text t) _ _ some ∙ ap (λ x. 32 ∷ (token_text t ++ x)) (more_spaced ts)
          ∙ ap spaced (sym (cond-true (has_text t) (t ∷ filter has_text ts) (filter has_text ts) some))
      | inr none ↦ cond-false (has_text t) _ _ none ∙ more_spaced ts ∙ ap spaced (sym (cond-false (has_text t) (t ∷ filter has_text ts) (filter has_text ts) none))
    ]

-- all tokens, as they are written
pub more_all : (ts : List StyleToken) → more_text true ts ≡ tokens_text ts
more_all [] = refl
more_all (t ∷ ts) =
    elim (cases_Bool (has_text t)) as (λ _. more_text true (t ∷ ts) ≡ tokens_text (t ∷ ts)) [
      | inl some ↦
          cond-true (has_text t) _ _ some ∙ ap (λ x. token_text t ++ x) (more_spaced ts) ∙ sym (joined t (filter has_text ts))
          ∙ ap (λ us. join_with_byte 32 (map token_text us)) (sym (cond-true (has_text t) (t ∷ filter has_text ts) (filter has_text ts) some))
      | inr none ↦ cond-false (has_text t) _ _ none ∙ more_all ts ∙ ap (λ us. join_with_byte 32 (map token_text us)) (sym (cond-false (has_text t) (t ∷ filter has_text ts) (filter has_text ts) none))
    ]

-- at the end of the tokens
pub written_all : (text : List ℕ) (first : Bool) (ts : List StyleToken) (i : ℕ) → length ts ≤ i → text ++ more_text first (drop i ts) ≡ more_text true ts → text ≡ tokens_text ts
written_all text first ts i past held =
    sym (ap (λ us. text ++ more_text first us) (drop_all i ts past) ∙ append-nil text) ∙ held ∙ more_all ts

-- the first text that is written
pub after_first : (first : Bool) (text before made token : List ℕ) → first ≡ true → before ≡ text → made ≡ before ++ token → made ≡ text ++ after_space first token
after_first first text before made token e same wrote = wrote ∙ ap (λ l. l ++ token) same ∙ ap (λ b. text ++ after_space b token) (sym e)

-- or a later one
pub after_other : (first : Bool) (text before made token : List ℕ) → first ≡ false → before ≡ text ++ 32 ∷ [] → made ≡ before ++ token → made ≡ text ++ after_space first token
after_other first text before made token e space wrote =
    wrote ∙ ap (λ l. l ++ token) space ∙ append_assoc text (32 ∷ []) token ∙ ap (λ b. text ++ after_space b token) (sym e)

-- one more token, which has a text
pub token_written : (ts : List StyleToken) (i : ℕ) (d : StyleToken) (first : Bool) (text new whole : List ℕ) → i < length ts → has_text (get_or ts i d) ≡ true
    → text ++ more_text first (drop i ts) ≡ whole → new ≡ text ++ after_space first (token_text (get_or ts i d)) → new ++ more_text false (drop (i + 1) ts) ≡ whole
token_written ts i d first text new whole within has held wrote =
    let t = get_or ts i d in
    let rest = drop (i + 1) ts in
    ap (λ l. l ++ more_text false rest) wrote ∙ append_assoc text (after_space first (token_text t)) (more_text false rest)
    ∙ ap (λ l. text ++ l) (sym (ap (more_text first) (drop_more ts i d within) ∙ cond-true (has_text t) (after_space first (token_text t) ++ more_text false rest) (more_text first rest) has))
    ∙ held

-- or which has none
pub token_passed : (ts : List StyleToken) (i : ℕ) (d : StyleToken) (first : Bool) (text whole : List ℕ) → i < length ts → has_text (get_or ts i d) ≡ false
    → text ++ more_text first (drop i ts) ≡ whole → text ++ more_text first (drop (i + 1) ts) ≡ whole
token_passed ts i d first text whole within has held =
    let t = get_or ts i d in
    let rest = drop (i + 1) ts in
    ap (λ l. text ++ l) (sym (ap (more_text first) (drop_more ts i d within) ∙ cond-false (has_text t) (after_space first (token_text t) ++ more_text false rest) (more_text first rest) has))
    ∙ held

-- ---- the attributes of a set, one by one

-- an attribute of which the test holds is one token more
pub attribute_pushed : (p : Attribute → Bool) (a d : Attribute) (list : List Attribute) (i : ℕ) (xs ys whole : List StyleToken) → i < length list → get_or list i d ≡ a → p a ≡ true
    → xs ++ map token.Attribute (filter p (drop i list)) ≡ whole → ys ≡ xs ++ token.Attribute a ∷ [] → ys ++ map token.Attribute (filter p (drop (i + 1) list)) ≡ whole
attribute_pushed p a d list i xs ys whole within is has held pushed =
    ap (λ l. l ++ map token.Attribute (filter p (drop (i + 1) list))) pushed
    ∙ append_assoc xs (token.Attribute a ∷ []) (map token.Attribute (filter p (drop (i + 1) list)))
    ∙ ap (λ l. xs ++ map token.Attribute l) (sym (ap (filter p) (drop_more list i d within ∙ ap (λ b. b ∷ drop (i + 1) list) is) ∙ cond-true (p a) (a ∷ filter p (drop (i + 1) list)) (filter p (drop (i + 1) list)) has))
    ∙ held

-- one of which it doesn't hold is none
pub attribute_passed : (p : Attribute → Bool) (a d : Attribute) (list : List Attribute) (i : ℕ) (xs ys whole : List StyleToken) → i < length list → get_or list i d ≡ a → p a ≡ false
    → xs ++ map token.Attribute (filter p (drop i list)) ≡ whole → ys ≡ xs → ys ++ map token.Attribute (filter p (drop (i + 1) list)) ≡ whole
attribute_passed p a d list i xs ys whole within is has held same =
    ap (λ l. l ++ map token.Attribute (filter p (drop (i + 1) list))) same
    ∙ ap (λ l. xs ++ map token.Attribute l) (sym (ap (filter p) (drop_more list i d within ∙ ap (λ b. b ∷ drop (i + 1) list) is) ∙ cond-false (p a) (a ∷ filter p (drop (i + 1) list)) (filter p (drop (i + 1) list)) has))
    ∙ held

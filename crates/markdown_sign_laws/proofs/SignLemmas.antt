-- A quote goes on where its sign is.
use Rattle.std.proofs.Common.{◌≡◌, ℕ, ◌<◌, Bool, true, false, cond, not, ◌||◌, ◌==◌, List, [], ◌∷◌, ◌++◌, replicate, Some, None, is_some, refl, sym, ap, ◌∙◌, arith}
use Rattle.std.proofs.lemmas.Bool.{eqb-true, ne_eqb, not-false, or_from, or_parts}
use Rattle.markdown_marks.specs.Bytes.{first}
use Rattle.markdown_marks.specs.Remaining.{Remaining, columns_in_front, take_columns, whole}
use Rattle.markdown_blocks.specs.Containers.{after_quote, goes_on}
use Rattle.markdown_blocks.specs.declared.containers.Container.TheVariants.{Quote}
use Rattle.markdown_sign_laws.specs.QuoteSigns.{HasQuoteSign, QuoteSignsAreSaid}
use Rattle.markdown_sign_laws.proofs.FrontLemmas.{Front, columns_of, few, front, many, taken_of}

some_by : (t : Bool) (rest : Remaining) → is_some (cond t None (Some rest)) ≡ true → t ≡ false
some_by true rest h = let no : false ≡ true = h in absurd (cc)
some_by false rest h = refl

is_there : (t : Bool) (rest : Remaining) → t ≡ false → is_some (cond t None (Some rest)) ≡ true
is_there t rest e = rw e refl

first_is : (bytes : List ℕ) → (first bytes == 62) ≡ true → (behind : List ℕ) × (bytes ≡ 62 ∷ behind)
first_is [] h = let no : false ≡ true = h in absurd (cc)
first_is (b ∷ bs) h = (bs, ap (λ (c : ℕ). c ∷ bs) (eqb-true b 62 h))

not_four : (n : ℕ) → n ≡ 4 → (n == 4) ≡ false → ⊥
not_four n e h = let no : true ≡ false = sym (ap (λ (k : ℕ). k == 4) e) ∙ h in absurd (cc)

sign_in : (line : List ℕ) → (columns_in_front 4 (whole line) == 4) ≡ false → (first (take_columns 4 (whole line)).bytes == 62) ≡ true → Front line → HasQuoteSign line
sign_in line less sign (many e) = absurd (not_four (columns_in_front 4 (whole line)) e less)
sign_in line less sign (few indent bytes below e stops) =
    let taken = ap (λ (xs : List ℕ). (take_columns 4 (whole xs)).bytes) e ∙ taken_of indent bytes below stops in
    let found = first_is bytes (ap (λ (xs : List ℕ). first xs == 62) (sym taken) ∙ sign) in
    record { indent = indent; few = below; behind = found.0; whole = e ∙ ap (λ (xs : List ℕ). replicate indent 32 ++ xs) found.1 }

said : (bare : Bool) (line : List ℕ) → is_some (goes_on Quote bare (whole line)) ≡ true → HasQuoteSign line
unfolding goes_on
said bare line h =
    let four = columns_in_front 4 (whole line) == 4 in
    let sign = first (take_columns 4 (whole line)).bytes == 62 in
    let parts = or_parts four (not sign) (some_by (four || not sign) (after_quote (take_columns 4 (whole line))) h) in
    sign_in line parts.0 (not-false sign parts.1) (front line)

no_four : (indent : ℕ) → indent < 4 → (indent == 4) ≡ false
no_four indent below = ne_eqb indent 4 (λ e. omega arith)

found_at : (bare : Bool) (indent : ℕ) (behind : List ℕ) → indent < 4 → is_some (goes_on Quote bare (whole (replicate indent 32 ++ 62 ∷ behind))) ≡ true
unfolding goes_on
found_at bare indent behind below =
    let line = replicate indent 32 ++ 62 ∷ behind in
    is_there ((columns_in_front 4 (whole line) == 4) || not (first (take_columns 4 (whole line)).bytes == 62)) (after_quote (take_columns 4 (whole line)))
    (or_from (columns_in_front 4 (whole line) == 4) (not (first (take_columns 4 (whole line)).bytes == 62))
    (ap (λ (n : ℕ). n == 4) (columns_of indent (62 ∷ behind) below refl) ∙ no_four indent below)
    (ap (λ (xs : List ℕ). not (first xs == 62)) (taken_of indent (62 ∷ behind) below refl)))

-- a quote goes on exactly where its sign is
pub quote_signs_said : QuoteSignsAreSaid
quote_signs_said bare line = (said bare line, λ h. ap (λ (xs : List ℕ). is_some (goes_on Quote bare (whole xs))) h.whole ∙ found_at bare h.indent h.behind h.few)

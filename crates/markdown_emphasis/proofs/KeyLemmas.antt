-- Closers of one key fit the same openers.
use Rattle.std.proofs.Common.{◌≡◌, ℕ, ◌+◌, ◌%◌, ◌<◌, ◌≤◌, Bool, true, false, cond, eqb, leb, List, [], ◌∷◌, refl, ap, sym, ◌∙◌, arith}
use Rattle.std.specs.Prelude.{◌&&◌, ◌||◌, not, min}
use Rattle.std.proofs.lemmas.Bool.{leb-true}
use Rattle.std.proofs.lemmas.Bool.Decides.{nat_tests}
use Rattle.markdown_emphasis.specs.declared.runs.Sign.{Sign}
use Rattle.markdown_emphasis.specs.declared.runs.Sign.TheVariants.{Star, Underscore, Tilde}
use Rattle.markdown_emphasis.specs.declared.runs.Run.{Run}
use Rattle.markdown_emphasis.specs.declared.runs.Mark.{Mark}
use Rattle.markdown_emphasis.specs.Matching.{is_same_sign, add_up_to_threes, lengths_fit, fits, nearest}
use Rattle.markdown_emphasis.specs.Keys.{key_by, key_of}

-- ---- what a key says

key_by-small : (opens : Bool) (count : ℕ) → key_by opens count < 6
key_by-small true count = omega arith
key_by-small false count = omega arith

key_by-parts : (a b : Bool) (m n : ℕ) → key_by a m ≡ key_by b n → (a ≡ b) × (m % 3 ≡ n % 3)
key_by-parts true true m n h = (refl, omega arith)
key_by-parts false false m n h = (refl, omega arith)
key_by-parts true false m n h = absurd (omega arith)
key_by-parts false true m n h = absurd (omega arith)

same_sign : (s t : Sign) (c d : Run) → key_of s c ≡ key_of t d → s ≡ t
same_sign Star Star c d h = refl
same_sign Underscore Underscore c d h = refl
same_sign Tilde Tilde c d h = refl
same_sign Star Underscore c d h = absurd (omega (arith, key_by-small c.opens c.count, key_by-small d.opens d.count))
same_sign Star Tilde c d h = absurd (omega (arith, key_by-small c.opens c.count))
same_sign Underscore Star c d h = absurd (omega (arith, key_by-small c.opens c.count, key_by-small d.opens d.count))
same_sign Underscore Tilde c d h = absurd (omega (arith, key_by-small c.opens c.count))
same_sign Tilde Star c d h = absurd (omega (arith, key_by-small d.opens d.count))
same_sign Tilde Underscore c d h = absurd (omega (arith, key_by-small d.opens d.count))

-- ---- what an opener looks at

threes_by : (a m n : ℕ) → m % 3 ≡ n % 3 → add_up_to_threes a m ≡ add_up_to_threes a n
threes_by a m n h =
    let sums : (a + m) % 3 ≡ (a + n) % 3 = omega arith in
    ap (λ k. eqb k 0 && not (eqb (a % 3) 0 && eqb (m % 3) 0)) sums ∙ ap (λ k. eqb ((a + n) % 3) 0 && not (eqb (a % 3) 0 && eqb k 0)) h

star_by : (o : Run) (a b : Bool) (m n : ℕ) → key_by a m ≡ key_by b n
    → not ((o.closes || a) && add_up_to_threes o.count m) ≡ not ((o.closes || b) && add_up_to_threes o.count n)
star_by o a b m n h =
    let parts = key_by-parts a b m n h in
    ap (λ x. not ((o.closes || x) && add_up_to_threes o.count m)) parts.0 ∙ ap (λ x. not ((o.closes || b) && x)) (threes_by o.count m n parts.1)

and-false : (b : Bool) → (b && false) ≡ false
and-false true = refl
and-false false = refl

tilde_small : (t : Bool) (k m n : ℕ) → leb m 2 ≡ t → 12 + min m 3 ≡ 12 + min n 3 → (eqb k m && leb m 2) ≡ (eqb k n && leb n 2)
tilde_small true k m n t h =
    let small : m ≤ 2 = leb-true m 2 t in
    let same : m ≡ n = omega arith in
    ap (λ x. eqb k x && leb x 2) same
tilde_small false k m n t h =
    let large : leb n 2 ≡ false = grind (arith, nat_tests) in
    ap (λ x. eqb k m && x) t ∙ and-false (eqb k m) ∙ sym (ap (λ x. eqb k n && x) large ∙ and-false (eqb k n))

lengths_by : (s : Sign) (o c d : Run) → key_of s c ≡ key_of s d → lengths_fit s o c ≡ lengths_fit s o d
lengths_by Star o c d h = star_by o c.opens d.opens c.count d.count h
lengths_by Underscore o c d h = star_by o c.opens d.opens c.count d.count (omega arith)
lengths_by Tilde o c d h = tilde_small (leb c.count 2) o.count c.count d.count refl h

-- closers of one key fit the same openers
pub fits_by_key : (o c d : Run) → key_of c.sign c ≡ key_of d.sign d → c.closes ≡ true → d.closes ≡ true → fits o c ≡ fits o d
fits_by_key o c d h closes ends =
    let same : c.sign ≡ d.sign = same_sign c.sign d.sign c d h in
    let key : key_of d.sign c ≡ key_of d.sign d = ap (λ s. key_of s c) (sym same) ∙ h in
    ap (λ b. is_same_sign o.sign c.sign && o.opens && b && lengths_fit c.sign o c) closes
    ∙ ap (λ s. is_same_sign o.sign s && o.opens && true && lengths_fit s o c) same
    ∙ ap (λ b. is_same_sign o.sign d.sign && o.opens && true && b) (lengths_by d.sign o c d key)
    ∙ sym (ap (λ b. is_same_sign o.sign d.sign && o.opens && b && lengths_fit d.sign o d) ends)

no_closer : (a b : Bool) → (a && false && b) ≡ false
no_closer true b = refl
no_closer false b = refl

-- no opener fits a run that can't close
pub fits-closes : (o c : Run) → c.closes ≡ false → fits o c ≡ false
fits-closes o c h = ap (λ b. is_same_sign o.sign c.sign && o.opens && b && lengths_fit c.sign o c) h ∙ no_closer (is_same_sign o.sign c.sign && o.opens) (lengths_fit c.sign o c)

-- ---- the nearest opener

-- an opener that fits is nearer than all that follow
pub nearest-fits : (c : Run) (o : Mark) (os : List Mark) → fits o.run c ≡ true → nearest c (o ∷ os) ≡ o ∷ os
nearest-fits c o os h = ap (λ b. cond b (o ∷ os) (nearest c os)) h

-- where one doesn't fit, the nearest is among those that follow
pub nearest-other : (c : Run) (o : Mark) (os : List Mark) → fits o.run c ≡ false → nearest c (o ∷ os) ≡ nearest c os
nearest-other c o os h = ap (λ b. cond b (o ∷ os) (nearest c os)) h

-- a run that can't close finds none
pub nearest-closes : (c : Run) (os : List Mark) → c.closes ≡ false → nearest c os ≡ []
nearest-closes c [] h = refl
nearest-closes c (o ∷ os) h = nearest-other c o os (fits-closes o.run c h) ∙ nearest-closes c os h

none_first : (b : Bool) (o : Mark) (os rest : List Mark) → cond b (o ∷ os) rest ≡ [] → (b ≡ false) × (rest ≡ [])
none_first true o os rest h = absurd (cc)
none_first false o os rest h = (refl, h)

-- where none fits, neither the first does nor one that follows
pub nearest-none : (c : Run) (o : Mark) (os : List Mark) → nearest c (o ∷ os) ≡ [] → (fits o.run c ≡ false) × (nearest c os ≡ [])
nearest-none c o os h = none_first (fits o.run c) o os (nearest c os) h

none_by : (t : Bool) (c d : Run) (os : List Mark) → d.closes ≡ t → key_of c.sign c ≡ key_of d.sign d → c.closes ≡ true → nearest c os ≡ [] → nearest d os ≡ []
none_by false c d os ends h closes none = nearest-closes d os ends
none_by true c d [] ends h closes none = refl
none_by true c d (o ∷ os) ends h closes none =
    let parts = nearest-none c o os none in
    nearest-other d o os (sym (fits_by_key o.run c d h closes ends) ∙ parts.0) ∙ none_by true c d os ends h closes parts.1

-- where a closer finds none, none of its key does
pub none_by_key : (c d : Run) (os : List Mark) → key_of c.sign c ≡ key_of d.sign d → c.closes ≡ true → nearest c os ≡ [] → nearest d os ≡ []
none_by_key c d os h closes none = none_by d.closes c d os refl h closes none

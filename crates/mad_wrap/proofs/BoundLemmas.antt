-- Starts that pass the checker bound the lines of each fitting break from below.
use Rattle.std.proofs.Common.{◌≡◌, ℕ, ◌+◌, ◌-◌, ◌<◌, ◌≤◌, ◌==◌, ◌||◌, ◌⊎◌, not, nat_lt, take, drop, get_or, slice_range, slice_get, inl, inr, Bool, true, false, List, [], ◌∷◌, ◌++◌, length, refl, sym, ap, ◌∙◌, subst, arith}
use Rattle.std.proofs.lemmas.List.{append_assoc, length-append}
use Rattle.std.proofs.lemmas.Bool.{and_parts, eqb-true, ltb-true, or_cases}
use Rattle.std.proofs.lemmas.Option.{slice_get-get_or}
use Rattle.std.proofs.lemmas.List.{length-drop, take_more, get_or-drop, at_drop_more}
use Rattle.std.proofs.lemmas.List.Folds.{drop_split}
use Rattle.std.specs.List.{AllByRecursion}
use Rattle.mad_wrap.specs.Bounds.{is_blank_token, are_starts_from, are_starts}
use Rattle.mad_measure.specs.declared.tokens.Token.{Token}
use Rattle.mad_wrap.specs.declared.room.Room.{Room}
use Rattle.mad_wrap.specs.Breaks.{LineAndGap, lines_and_gaps, total_width, FitsFrom, FittingBreak, EndsWithLine}

-- joined tokens take as many columns as both together
pub total_width-append : (xs ys : List Token) → total_width (xs ++ ys) ≡ total_width xs + total_width ys
total_width-append [] ys = omega arith
total_width-append (x ∷ xs) ys = omega (arith, total_width-append xs ys)

-- Of two fronts, the first ends within the second, or it goes on with what follows the second.
abbrev pub Ends : List Token → List Token → List Token → Token → List Token → Type 0
Ends xs r before t after = ((more : List Token) × (before ≡ xs ++ more) × (r ≡ more ++ t ∷ after)) ⊎ ((zs : List Token) × (xs ≡ before ++ t ∷ zs))

-- two fronts of one list, the second before a token of it, end so
pub ends : (xs r before : List Token) (t : Token) (after : List Token) → xs ++ r ≡ before ++ t ∷ after → Ends xs r before t after
ends [] r before t after e = inl (before, refl, e)
ends (x ∷ xs) r [] t after e = inr (xs, let same : x ≡ t = cc in ap (λ y. y ∷ xs) same)
ends (x ∷ xs) r (b ∷ before) t after e =
    let head : x ≡ b = cc in
    let tail : xs ++ r ≡ before ++ t ∷ after = cc in
    elim (ends xs r before t after tail) as (λ _. Ends (x ∷ xs) r (b ∷ before) t after)
    [ inl (more, f, g) ↦ inl (more, ap (λ y. y ∷ before) (sym head) ∙ ap (λ l. x ∷ l) f, g) | inr (zs, f) ↦ inr (zs, ap (λ y. y ∷ xs) head ∙ ap (λ l. b ∷ l) f) ]

-- what holds of each token holds of one among them
pub all_at : (P : Token → Type 0) (xs zs : List Token) (t : Token) → AllByRecursion P (xs ++ t ∷ zs) → P t
all_at P [] zs t h = h.0
all_at P (x ∷ xs) zs t h = all_at P xs zs t h.1

-- one more piece is there where tokens are left
some_piece : (p : LineAndGap Token) (ps : List (LineAndGap Token)) (more after : List Token) (t : Token) → EndsWithLine (p ∷ ps) → p.gap ++ lines_and_gaps ps ≡ more ++ t ∷ after → 0 < length ps
some_piece p [] more after t h e = absurd (omega (arith, ap length (sym e ∙ ap (λ g. g ++ []) h), length-append more (t ∷ after)))
some_piece p (q ∷ ps) more after t h e = omega arith

later : (p : LineAndGap Token) (ps : List (LineAndGap Token)) → EndsWithLine (p ∷ ps) → EndsWithLine ps
later p [] h = tt
later p (q ∷ ps) h = h

not_both : (b : Bool) → b ≡ true → not b ≡ true → ⊥
not_both true h g = absurd (cc)
not_both false h g = absurd (cc)

slice_next : (ts : List Token) (s n : ℕ) (d : Token) → s < n → n < length ts → slice_range ts s (n + 1) ≡ slice_range ts s n ++ get_or ts n d ∷ []
slice_next ts s n d o l =
    let inside : n - s < length (drop s ts) = omega (arith, length-drop s ts) in
    let one : n + 1 - s ≡ n - s + 1 = omega arith in
    let place : s + (n - s) ≡ n = omega arith in
    ap (λ k. take k (drop s ts)) one ∙ take_more (drop s ts) (n - s) d inside
    ∙ ap (λ b. take (n - s) (drop s ts) ++ b ∷ []) (get_or-drop s ts (n - s) d ∙ ap (λ k. get_or ts k d) place)

-- the break's line began at the start s or before it, with the tokens extra
pub at_least_from : (d : Token) (r : Room) (ts : List Token) (ns : List ℕ) (s indent : ℕ) (extra : List Token) (ps : List (LineAndGap Token)) → 0 < length ps → are_starts_from indent r ts s ns ≡ true → FitsFrom indent r ps → EndsWithLine ps
    → lines_and_gaps ps ≡ extra ++ drop s ts → 1 + length ns ≤ length ps
at_least_from d r ts [] s indent extra ps some b fits end e = omega arith
at_least_from d r ts (n ∷ ns) s indent extra [] some b fits end e = absurd (omega arith)
at_least_from d r ts (n ∷ ns) s indent extra (p ∷ ps) some b fits end e =
    let t : Token = get_or ts n d in
    let b1 = and_parts (nat_lt s n) _ b in
    let b2 = and_parts (nat_lt n (length ts)) _ b1.1 in
    let b3 = and_parts (nat_lt r.width (indent + total_width (slice_range ts s (n + 1)))) _ b2.1 in
    let b4 = and_parts ((length ns == 0) || not (is_blank_token (slice_get ts n))) (are_starts_from r.other r ts n ns) b3.1 in
    let rises : s < n = ltb-true s n b1.0 in
    let inside : n < length ts = ltb-true n (length ts) b2.0 in
    let too_wide : r.width < indent + total_width (slice_range ts s (n + 1)) = ltb-true _ _ b3.0 in
    let more_slice = slice_next ts s n d rises inside in
    let wide : r.width < indent + total_width (slice_range ts s n) + t.width =
    omega (arith, too_wide, ap total_width more_slice, total_width-append (slice_range ts s n) (t ∷ [])) in
    let next : drop n ts ≡ t ∷ drop (n + 1) ts = at_drop_more (λ l. l) ts n d inside in
    let tokens : p.line ++ (p.gap ++ lines_and_gaps ps) ≡ (extra ++ slice_range ts s n) ++ t ∷ drop (n + 1) ts =
    e ∙ ap (λ l. extra ++ l) (drop_split ts s n (omega arith)) ∙ sym (append_assoc extra (slice_range ts s n) (drop n ts)) ∙ ap (λ l. (extra ++ slice_range ts s n) ++ l) next in
    elim (ends p.line (p.gap ++ lines_and_gaps ps) (extra ++ slice_range ts s n) t (drop (n + 1) ts) tokens) as (λ _. 1 + length (n ∷ ns) ≤ length (p ∷ ps)) [
      | inr (zs, f) ↦ absurd (omega (arith, fits.0, wide, ap total_width f, total_width-append (extra ++ slice_range ts s n) (t ∷ zs), total_width-append extra (slice_range ts s n)))
      | inl (more, f, g) ↦
          let left : 0 < length ps = some_piece p ps more (drop (n + 1) ts) t end g in
          elim (or_cases (length ns == 0) (not (is_blank_token (slice_get ts n))) b4.0) as (λ _. 1 + length (n ∷ ns) ≤ length (p ∷ ps)) [
            | inl last ↦ omega (arith, left, eqb-true (length ns) 0 last)
            | inr no_blank ↦ let solid : not t.blank ≡ true = ap (λ o. not (is_blank_token o)) (sym (slice_get-get_or ts n d inside)) ∙ no_blank in elim (ends p.gap (lines_and_gaps ps) more t (drop (n + 1) ts) g) as (λ _. 1 + length (n ∷ ns) ≤ length (p ∷ ps)) [
              | inr (zs, k) ↦
                  let is_blank = all_at (λ t. t.blank ≡ true) more zs t (subst (AllByRecursion (λ t. t.blank ≡ true)) k fits.1) in
                  absurd (not_both t.blank is_blank solid)
              | inl (extra', k, l) ↦
                  let again : lines_and_gaps ps ≡ extra' ++ drop n ts = l ∙ ap (λ l. extra' ++ l) (sym next) in
                  let rec = at_least_from d r ts ns n r.other extra' ps left b4.1 fits.2 (later p ps end) again in
                  omega (arith, rec)
            ]
          ]
    ]

no_starts : (r : Room) (ns : List ℕ) (s indent : ℕ) → are_starts_from indent r [] s ns ≡ true → ns ≡ []
no_starts r [] s indent b = refl
no_starts r (n ∷ ns) s indent b = let parts = and_parts (nat_lt s n) _ b in let inside = and_parts (nat_lt n 0) _ parts.1 in absurd (omega (arith, ltb-true n 0 inside.0))

-- starts that pass the checker are no more than the lines of a fitting break
pub bound : (r : Room) (ts : List Token) (starts : List ℕ) → are_starts r ts starts ≡ true → (ps : List (LineAndGap Token)) → FittingBreak r ts ps → length starts ≤ length ps
bound r ts [] b ps h = absurd (cc)
bound r [] (s ∷ ns) b ps h =
    let parts = and_parts (s == 0) (are_starts_from r.first r [] s ns) b in
    omega (arith, h.trimming.some_line, ap length (no_starts r ns s r.first parts.1))
bound r (d ∷ ts) (s ∷ ns) b ps h =
    let parts = and_parts (s == 0) (are_starts_from r.first r (d ∷ ts) s ns) b in
    let zero : s ≡ 0 = eqb-true s 0 parts.0 in
    let all = h.trimming in
    let rec = at_least_from d r (d ∷ ts) ns s r.first [] ps all.some_line parts.1 all.fits h.ends (all.covers ∙ ap (λ n. drop n (d ∷ ts)) (sym zero)) in
    omega (arith, rec)

-- where the whole is too wide for one line, a break that drops nothing at its end has two
pub two_lines : (r : Room) (ts : List Token) (ps : List (LineAndGap Token)) → FittingBreak r ts ps → r.width < r.first + total_width ts → 2 ≤ length ps
two_lines r ts [] h wide = absurd (omega (arith, h.trimming.some_line))
two_lines r ts (p ∷ []) h wide =
    let all : p.line ++ [] ≡ ts = ap (λ g. p.line ++ (g ++ [])) (sym h.ends) ∙ h.trimming.covers in
    absurd (omega (arith, wide, h.trimming.fits.0, ap total_width all, total_width-append p.line []))
two_lines r ts (p ∷ q ∷ ps) h wide = omega arith

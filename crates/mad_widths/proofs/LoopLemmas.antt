-- Steps of the loops.
use Rattle.std.proofs.Common.{◌≡◌, ℕ, zero, ◌+◌, ◌-◌, ◌≤◌, ◌<◌, Bool, true, false, cond, ltb, eqb, ◌||◌, ◌&&◌, List, [], ◌∷◌, ◌++◌, length, map, get_or, set, take, inl, inr, refl, sym, ap, ◌∙◌, arith, subst, length-take-le, get_or-set_same, get_or-set_other, ext_get_or, is_lt, nat_cmp, Less, Equal, Greater, IsPermutation}
use Rattle.std.specs.declared.cmp.Reverse.{Reverse}
use Rattle.std.specs.Ordering.{ordering_then}
use Rattle.std.proofs.lemmas.Bool.{cases_eq, eq-eqb, ne_eqb}
use Rattle.std.proofs.lemmas.List.{take_more, map-append, get_or-map, length-map}
use Rattle.std.proofs.lemmas.List.Sorted.{IsPermutation-map}
use Rattle.mad_widths.specs.Turns.{turn_of, turns_from, goes_before, AreTurns}
use Rattle.mad_widths.specs.ColumnWidths.{narrowed}
use Rattle.mad_widths.proofs.ShareLemmas.{get_or-narrowed, length-narrowed}

turns_push : (p : ℕ) (ws : List ℕ) (w : ℕ) → turns_from p (ws ++ w ∷ []) ≡ turns_from p ws ++ record { width = w; column = p + length ws } ∷ []
turns_push p [] w =
    let e : p ≡ p + zero = omega arith in
    ap (λ n. record { width = w; column = n } ∷ []) e
turns_push p (v ∷ ws) w =
    let e : p + 1 + length ws ≡ p + length (v ∷ ws) = omega arith in
    ap (λ ts. record { width = v; column = p } ∷ ts) (turns_push (p + 1) ws w ∙ ap (λ n. turns_from (p + 1) ws ++ record { width = w; column = n } ∷ []) e)

-- one turn more
pub turns_more : (ws : List ℕ) (i : ℕ) (ts us : List (Reverse ℕ × ℕ)) (t : Reverse ℕ × ℕ) → i < length ws → map turn_of ts ≡ turns_from 0 (take i ws) → us ≡ ts ++ t ∷ [] → turn_of t ≡ record { width = get_or ws i 0; column = i }
    → map turn_of us ≡ turns_from 0 (take (i + 1) ws)
turns_more ws i ts us t l held e same =
    let len : length (take i ws) ≡ i = length-take-le i ws (omega (arith, l)) in
    let column : 0 + length (take i ws) ≡ i = omega (arith, len) in
    ap (map turn_of) e ∙ map-append turn_of ts (t ∷ []) ∙ ap (λ l. l ++ turn_of t ∷ []) held ∙ ap (λ u. turns_from 0 (take i ws) ++ u ∷ []) same
    ∙ ap (λ n. turns_from 0 (take i ws) ++ record { width = get_or ws i 0; column = n } ∷ []) (sym column)
    ∙ sym (turns_push 0 (take i ws) (get_or ws i 0)) ∙ ap (turns_from 0) (sym (take_more ws i 0 l))

bools : (x y z w : Bool) → is_lt (ordering_then (cond x Less (cond y Equal Greater)) (cond z Less (cond w Equal Greater))) ≡ (x || (y && z))
bools true y z w = refl
bools false true true w = refl
bools false true false true = refl
bools false true false false = refl
bools false false z w = refl

eqb_sym : (a b : ℕ) → eqb a b ≡ eqb b a
eqb_sym a b =
    elim (cases_eq a b) [
      | inl e ↦ eq-eqb a b e ∙ sym (eq-eqb b a (sym e))
      | inr ne ↦ ne_eqb a b ne ∙ sym (ne_eqb b a (λ e. ne (sym e)))
    ]

-- the order in which the program sorts turns
sorted_test : (a b c d : ℕ) → is_lt (ordering_then (nat_cmp b a) (nat_cmp c d)) ≡ (ltb b a || (eqb a b && ltb c d))
sorted_test a b c d = bools (ltb b a) (eqb b a) (ltb c d) (eqb c d) ∙ ap (λ y. ltb b a || (y && ltb c d)) (eqb_sym b a)

-- turns that the program has sorted are those of the columns, in order
pub sorted_turns : (ws : List ℕ) (ts us : List (Reverse ℕ × ℕ)) → map turn_of ts ≡ turns_from 0 ws → IsPermutation ts us
    → ((k : ℕ) (d : Reverse ℕ × ℕ) → 0 ≤ k → k + 1 < length us → is_lt (ordering_then (nat_cmp (get_or us k d).0.0 (get_or us (k + 1) d).0.0) (nat_cmp (get_or us (k + 1) d).1 (get_or us k d).1)) ≡ false)
    → AreTurns ws (map turn_of us)
sorted_turns ws ts us e perm ordered = record {
  all = subst (λ l. IsPermutation l (map turn_of us)) e (IsPermutation-map turn_of ts us perm);
  ordered = λ k d l.
      let f : Reverse ℕ × ℕ = (record { 0 = d.width }, d.column) in
      let within : k + 1 < length us = subst (λ n. k + 1 < n) (length-map us turn_of) l in
      let at : get_or (map turn_of us) k d ≡ turn_of (get_or us k f) = get_or-map turn_of us k f d (omega (arith, within)) in
      let next : get_or (map turn_of us) (k + 1) d ≡ turn_of (get_or us (k + 1) f) = get_or-map turn_of us (k + 1) f d within in
      ap (λ t. goes_before t (get_or (map turn_of us) k d)) next ∙ ap (goes_before (turn_of (get_or us (k + 1) f))) at
      ∙ sym (sorted_test (get_or us (k + 1) f).0.0 (get_or us k f).0.0 (get_or us (k + 1) f).1 (get_or us k f).1) ∙ ordered k f (omega arith) within;
}

-- widths of which the first have given up theirs
pub record IsGiven (ws cs : List ℕ) (i : ℕ) (now : List ℕ) : Type 0 where
  pub done : (k : ℕ) → k < i → get_or now k 0 ≡ get_or ws k 0 - get_or cs k 0
  pub rest : (k : ℕ) → i ≤ k → get_or now k 0 ≡ get_or ws k 0

-- one width more has given up its own
pub given_more : (ws cs : List ℕ) (i : ℕ) (now after : List ℕ) (v : ℕ) → i < length now → IsGiven ws cs i now → after ≡ set now i v → v ≡ get_or ws i 0 - get_or cs i 0 → IsGiven ws cs (i + 1) after
given_more ws cs i now after v l h e f = record {
  done = λ k b. ap (λ xs. get_or xs k 0) e ∙ elim (cases_eq k i) as (λ _. get_or (set now i v) k 0 ≡ get_or ws k 0 - get_or cs k 0) [
    | inl same ↦ subst (λ j. get_or (set now i v) j 0 ≡ get_or ws j 0 - get_or cs j 0) (sym same) (get_or-set_same now i v 0 l ∙ f)
    | inr other ↦ get_or-set_other now i k v 0 other ∙ h.done k (omega (arith, b, other))
  ];
  rest = λ k b. ap (λ xs. get_or xs k 0) e ∙ get_or-set_other now i k v 0 (λ same. absurd (omega (arith, same, b))) ∙ h.rest k (omega (arith, b));
}

-- after the last width all are narrowed
pub given_all : (ws cs : List ℕ) (i : ℕ) (now : List ℕ) → length now ≡ length ws → length ws ≤ i → IsGiven ws cs i now → now ≡ narrowed ws cs
given_all ws cs i now e l h = ext_get_or 0 now (narrowed ws cs) (e ∙ sym (length-narrowed ws cs)) (λ k b. h.done k (omega (arith, b, e, l)) ∙ sym (get_or-narrowed ws cs k))

-- to map both functions at once is to map the one and then the other
pub map_twice : {X Y : Type 0} (f : X → Y) (g : Y → ℕ) (xs : List X) → map (λ x. g (f x)) xs ≡ map g (map f xs)
map_twice f g [] = refl
map_twice f g (x ∷ xs) = ap (λ l. g (f x) ∷ l) (map_twice f g xs)

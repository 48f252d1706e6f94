-- Tokens have one first fit: two first fits of them are equal.
use Rattle.std.proofs.Common.{◌≡◌, ℕ, ◌≤◌, ◌<◌, ◌+◌, true, false, List, [], ◌∷◌, ◌++◌, length, refl, sym, ap, ◌∙◌, arith, subst, inl, inr}
use Rattle.std.proofs.lemmas.List.{length-append}
use Rattle.mad_measure.specs.declared.tokens.Token.{Token}
use Rattle.mad_measure.proofs.AllLemmas.{all_back}
use Rattle.mad_measure.proofs.UniqueLemmas.{fronts}
use Rattle.mad_wrap.specs.Breaks.{LineAndGap, lines_and_gaps, total_width, AllBlank}
use Rattle.mad_wrap.specs.Placings.{GapsForced, LinesForced, LinesWithin, IsFirstFit}
use Rattle.mad_wrap.specs.declared.room.Room.{Room}
use Rattle.mad_wrap.proofs.BoundLemmas.{total_width-append}

-- lines that are placed with this indent of the first, which has `placed` tokens at any width
pub record ArePlacedFrom (placed indent : ℕ) (r : Room) (ps : List (LineAndGap Token)) : Type 0 where
  pub gaps : GapsForced indent r ps
  pub forced : LinesForced indent r ps
  pub within : LinesWithin placed indent r ps

-- the token after a line doesn't fit on it
passes_next : (i : ℕ) (r : Room) (line gap : List Token) (ps : List (LineAndGap Token)) (y : Token) (rest : List Token) → GapsForced i r (record { line = line; gap = gap } ∷ ps) → LinesForced i r (record { line = line; gap = gap } ∷ ps)
    → gap ++ lines_and_gaps ps ≡ y ∷ rest → r.width < i + total_width line + y.width
passes_next i r line (g ∷ gs) ps y rest gaps forced e =
    let same : g ≡ y = cc in
    subst (λ (t : Token). r.width < i + total_width line + t.width) same (gaps.1 g gs refl)
passes_next i r line [] [] y rest gaps forced e = absurd (cc)
passes_next i r line [] (q ∷ qs) y rest gaps forced e =
    let b = forced.0 in
    let begins : b.first ∷ (b.others ++ (q.gap ++ lines_and_gaps qs)) ≡ y ∷ rest = ap (λ l. l ++ (q.gap ++ lines_and_gaps qs)) (sym b.begins) ∙ e in
    let same : b.first ≡ y = cc in
    omega (arith, b.passes, ap (λ (t : Token). t.width) same)

-- so no placing has it there
no_longer : (k i : ℕ) (r : Room) (p : LineAndGap Token) (ps : List (LineAndGap Token)) (q : LineAndGap Token) (qs : List (LineAndGap Token)) (y : Token) (zs rest : List Token) → k ≤ length p.line
    → ArePlacedFrom k i r (p ∷ ps) → ArePlacedFrom k i r (q ∷ qs) → q.line ≡ p.line ++ y ∷ zs → p.gap ++ lines_and_gaps ps ≡ y ∷ rest → ⊥
no_longer k i r p ps q qs y zs rest most a b longer next =
    let size = ap length longer ∙ length-append p.line (y ∷ zs) in
    let fits = b.within.0 (omega (arith, size, most)) in
    omega (arith, fits, ap total_width longer, total_width-append p.line (y ∷ zs), passes_next i r p.line p.gap ps y rest a.gaps a.forced next)

-- the token after a gap isn't blank
solid_next : (i : ℕ) (r : Room) (p : LineAndGap Token) (ps : List (LineAndGap Token)) (y : Token) (rest : List Token) → LinesForced i r (p ∷ ps) → lines_and_gaps ps ≡ y ∷ rest → y.blank ≡ false
solid_next i r p [] y rest forced e = absurd (cc)
solid_next i r p (q ∷ qs) y rest forced e =
    let b = forced.0 in
    let begins : b.first ∷ (b.others ++ (q.gap ++ lines_and_gaps qs)) ≡ y ∷ rest = ap (λ l. l ++ (q.gap ++ lines_and_gaps qs)) (sym b.begins) ∙ e in
    let same : b.first ≡ y = cc in
    ap (λ (t : Token). t.blank) (sym same) ∙ b.solid

-- so no gap goes on over it
no_longer_gap : (i : ℕ) (r : Room) (p : LineAndGap Token) (ps : List (LineAndGap Token)) (gap : List Token) (y : Token) (zs rest : List Token) → LinesForced i r (p ∷ ps) → lines_and_gaps ps ≡ y ∷ rest → AllBlank gap → gap ≡ p.gap ++ y ∷ zs → ⊥
no_longer_gap i r p ps gap y zs rest forced next blank longer =
    let on = (all_back (λ t. t.blank ≡ true) p.gap (y ∷ zs) (subst AllBlank longer blank)).0 in
    let off = solid_next i r p ps y rest forced next in
    absurd (let both : true ≡ false = sym on ∙ off in cc)

-- the first lines are the same, and so is what follows them
same_line : (k i : ℕ) (r : Room) (p : LineAndGap Token) (ps : List (LineAndGap Token)) (q : LineAndGap Token) (qs : List (LineAndGap Token)) → k ≤ length p.line → k ≤ length q.line → ArePlacedFrom k i r (p ∷ ps) → ArePlacedFrom k i r (q ∷ qs)
    → lines_and_gaps (p ∷ ps) ≡ lines_and_gaps (q ∷ qs) → (p.line ≡ q.line) × (p.gap ++ lines_and_gaps ps ≡ q.gap ++ lines_and_gaps qs)
same_line k i r p ps q qs most_p most_q a b e =
    elim (fronts p.line (p.gap ++ lines_and_gaps ps) q.line (q.gap ++ lines_and_gaps qs) e) as (λ _. (p.line ≡ q.line) × (p.gap ++ lines_and_gaps ps ≡ q.gap ++ lines_and_gaps qs)) [
      | inl both ↦ both
      | inr (inl (y, zs, longer, next)) ↦ absurd (no_longer k i r p ps q qs y zs (zs ++ (q.gap ++ lines_and_gaps qs)) most_p a b longer next)
      | inr (inr (y, zs, longer, next)) ↦ absurd (no_longer k i r q qs p ps y zs (zs ++ (p.gap ++ lines_and_gaps ps)) most_q b a longer next)
    ]

-- so are the first gaps, and what follows these
same_gap : (k i : ℕ) (r : Room) (p : LineAndGap Token) (ps : List (LineAndGap Token)) (q : LineAndGap Token) (qs : List (LineAndGap Token)) → ArePlacedFrom k i r (p ∷ ps) → ArePlacedFrom k i r (q ∷ qs)
    → p.gap ++ lines_and_gaps ps ≡ q.gap ++ lines_and_gaps qs → (p.gap ≡ q.gap) × (lines_and_gaps ps ≡ lines_and_gaps qs)
same_gap k i r p ps q qs a b e =
    elim (fronts p.gap (lines_and_gaps ps) q.gap (lines_and_gaps qs) e) as (λ _. (p.gap ≡ q.gap) × (lines_and_gaps ps ≡ lines_and_gaps qs)) [
      | inl both ↦ both
      | inr (inl (y, zs, longer, next)) ↦ absurd (no_longer_gap i r p ps q.gap y zs (zs ++ lines_and_gaps qs) a.forced next b.gaps.0 longer)
      | inr (inr (y, zs, longer, next)) ↦ absurd (no_longer_gap i r q qs p.gap y zs (zs ++ lines_and_gaps ps) b.forced next a.gaps.0 longer)
    ]

-- what is placed after a line
placed_after : (k i : ℕ) (r : Room) (p : LineAndGap Token) (q : LineAndGap Token) (qs : List (LineAndGap Token)) → ArePlacedFrom k i r (p ∷ q ∷ qs) → ArePlacedFrom 1 r.other r (q ∷ qs) × (1 ≤ length q.line)
placed_after k i r p q qs a = (record { gaps = a.gaps.2; forced = a.forced.1; within = a.within.1 }, omega (arith, ap length a.forced.0.begins))

some_next : (k i : ℕ) (r : Room) (p : LineAndGap Token) (q : LineAndGap Token) (qs : List (LineAndGap Token)) → ArePlacedFrom k i r (p ∷ q ∷ qs) → 0 < length (lines_and_gaps (q ∷ qs))
some_next k i r p q qs a = omega (arith, (placed_after k i r p q qs a).1, length-append q.line (q.gap ++ lines_and_gaps qs))

same_first : (p q : LineAndGap Token) (ps qs : List (LineAndGap Token)) → p.line ≡ q.line → p.gap ≡ q.gap → ps ≡ qs → p ∷ ps ≡ q ∷ qs
same_first p q ps qs lines gaps rest =
    let line : p ≡ record { line = q.line; gap = p.gap } = ap (λ l. record { line = l; gap = p.gap }) lines in
    let both : p ≡ q = line ∙ ap (λ g. record { line = q.line; gap = g }) gaps in
    ap (λ x. x ∷ ps) both ∙ ap (λ l. q ∷ l) rest

same_all : (k i : ℕ) (r : Room) (p : LineAndGap Token) (ps : List (LineAndGap Token)) (q : LineAndGap Token) (qs : List (LineAndGap Token)) → k ≤ length p.line → k ≤ length q.line → ArePlacedFrom k i r (p ∷ ps) → ArePlacedFrom k i r (q ∷ qs)
    → lines_and_gaps (p ∷ ps) ≡ lines_and_gaps (q ∷ qs) → p ∷ ps ≡ q ∷ qs
same_all k i r p [] q [] most_p most_q a b e =
    let line = same_line k i r p [] q [] most_p most_q a b e in
    same_first p q [] [] line.0 (same_gap k i r p [] q [] a b line.1).0 refl
same_all k i r p [] q (q' ∷ qs) most_p most_q a b e =
    let line = same_line k i r p [] q (q' ∷ qs) most_p most_q a b e in
    absurd (omega (arith, ap length (same_gap k i r p [] q (q' ∷ qs) a b line.1).1, some_next k i r q q' qs b))
same_all k i r p (p' ∷ ps) q [] most_p most_q a b e =
    let line = same_line k i r p (p' ∷ ps) q [] most_p most_q a b e in
    absurd (omega (arith, ap length (same_gap k i r p (p' ∷ ps) q [] a b line.1).1, some_next k i r p p' ps a))
same_all k i r p (p' ∷ ps) q (q' ∷ qs) most_p most_q a b e =
    let line = same_line k i r p (p' ∷ ps) q (q' ∷ qs) most_p most_q a b e in
    let gap = same_gap k i r p (p' ∷ ps) q (q' ∷ qs) a b line.1 in
    let next_p = placed_after k i r p p' ps a in
    let next_q = placed_after k i r q q' qs b in
    same_first p q (p' ∷ ps) (q' ∷ qs) line.0 gap.0 (same_all 1 r.other r p' ps q' qs next_p.1 next_q.1 next_p.0 next_q.0 gap.1)

same_breaks : (r : Room) (ps qs : List (LineAndGap Token)) → 0 < length ps → 0 < length qs → ArePlacedFrom 0 r.first r ps → ArePlacedFrom 0 r.first r qs → lines_and_gaps ps ≡ lines_and_gaps qs → ps ≡ qs
same_breaks r [] qs some_p some_q a b e = absurd (omega arith)
same_breaks r (p ∷ ps) [] some_p some_q a b e = absurd (omega arith)
same_breaks r (p ∷ ps) (q ∷ qs) some_p some_q a b e = same_all 0 r.first r p ps q qs (omega arith) (omega arith) a b e

-- two first fits of the same tokens are the same
pub one_first_fit : (r : Room) (ts : List Token) (ps qs : List (LineAndGap Token)) → IsFirstFit r ts ps → IsFirstFit r ts qs → ps ≡ qs
one_first_fit r ts ps qs h g =
    same_breaks r ps qs h.placing.some_line g.placing.some_line (record { gaps = h.placing.gaps; forced = h.forced; within = h.within }) (record { gaps = g.placing.gaps; forced = g.forced; within = g.within }) (h.placing.covers ∙ sym g.placing.covers)

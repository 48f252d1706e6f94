-- What the steps of the column widths request, and what they leave.
use Rattle.std.proofs.Common.{◌≡◌, ℕ, zero, suc, ◌+◌, ◌-◌, ◌*◌, ◌/◌, ◌≤◌, ◌<◌, inl, inr, min, ltb, ◌&&◌, List, [], ◌∷◌, length, map, get_or, sum, sum_by, refl, sym, ap, ◌∙◌, arith, subst, All, ext_get_or, add-mul, mul-add, mul_comm, one-mul, div-mul-le_self, le_of_mul-le-mul_right}
use Rattle.std.specs.List.{AllZip, AllByRecursion}
use Rattle.std.specs.Int.{div_ceil}
use Rattle.std.proofs.Math.Nat.{lt-div-mul-add, lt_of_mul-lt-mul_right}
use Rattle.std.proofs.lemmas.Bool.{cond_both, and_parts, ltb-true, cases_lt}
use Rattle.std.proofs.lemmas.List.{get_or-map, length-map}
use Rattle.std.proofs.lemmas.List.Elements.{All-get_or, All-from_get_or, recursion_from_All}
use Rattle.std.proofs.lemmas.List.Sums.{sum_by-cons}
use Rattle.std.proofs.lemmas.Grind.{div_ceil_times}
use Rattle.mad_widths.specs.Turns.{Turn, grants, AreTurns}
use Rattle.mad_widths.specs.ColumnWidths.{Needs, natural_widths, narrowed, over_average, spare, first_request, first_requests, above_three, second_request, second_requests}
use Rattle.mad_widths.proofs.GrantLemmas.{length-grants, get_or-grants, grants-le, sum-grants}

-- ---- lists

-- lists of the same length are related where their elements at each place are
pub all_zip_from : (R : ℕ → ℕ → Type 0) (xs ys : List ℕ) → length xs ≡ length ys → ((i : ℕ) → i < length xs → R (get_or xs i 0) (get_or ys i 0)) → AllZip R xs ys
all_zip_from R [] [] e h = tt
all_zip_from R (x ∷ xs) (y ∷ ys) e h = (h zero (omega arith), all_zip_from R xs ys (omega (arith, e)) (λ i l. h (suc i) (omega (arith, l))))
all_zip_from R _ _ e h = absurd (omega (arith, e))

-- as many narrowed widths come out as there were widths
pub length-narrowed : (ws cs : List ℕ) → length (narrowed ws cs) ≡ length ws
length-narrowed (w ∷ ws) (c ∷ cs) = ap suc (length-narrowed ws cs)
length-narrowed _ _ = refl

-- a narrowed width is the width less what its column gives up
pub get_or-narrowed : (ws cs : List ℕ) (i : ℕ) → get_or (narrowed ws cs) i 0 ≡ get_or ws i 0 - get_or cs i 0
get_or-narrowed (w ∷ ws) (c ∷ cs) zero = refl
get_or-narrowed (w ∷ ws) (c ∷ cs) (suc i) = get_or-narrowed ws cs i
get_or-narrowed _ _ _ = omega arith

sum_zip : (ws cs : List ℕ) → AllZip (λ c w. c ≤ w) cs ws → sum (narrowed ws cs) + sum cs ≡ sum ws
sum_zip [] [] h = refl
sum_zip (w ∷ ws) (c ∷ cs) h =
    omega (arith, h.0, sum_zip ws cs h.1, sum_by-cons (λ (x : ℕ). x) (w - c) (narrowed ws cs), sum_by-cons (λ (x : ℕ). x) c cs, sum_by-cons (λ (x : ℕ). x) w ws)
sum_zip _ _ h = absurd h

-- narrowed widths and what is given up are together the widths before, where no column gives up more than it has
pub sum-narrowed : (ws cs : List ℕ) → length cs ≡ length ws → ((i : ℕ) → i < length ws → get_or cs i 0 ≤ get_or ws i 0) → sum (narrowed ws cs) + sum cs ≡ sum ws
sum-narrowed ws cs e h = sum_zip ws cs (all_zip_from (λ c w. c ≤ w) cs ws e (λ i l. h i (subst (λ n. i < n) e l)))

-- each width is three at least
abbrev pub AreWide : List ℕ → Type 0
AreWide ws = (i : ℕ) → i < length ws → 3 ≤ get_or ws i 0

-- each request leaves three at least
abbrev pub LeaveThree : List ℕ → List ℕ → Type 0
LeaveThree requests ws = (i : ℕ) → i < length ws → get_or requests i 0 + 3 ≤ get_or ws i 0

-- ---- a step: requests that leave three columns each, cut down in turn, are taken off

-- A step leaves widths of three at least, none of them wider than before. Their sum is less by the requests, but by the excess at most.
pub record IsStep (order ws requests : List ℕ) (excess : ℕ) (after : List ℕ) : Type 0 where
  pub length_is : length after ≡ length ws
  pub wide : AreWide after
  pub narrower : (i : ℕ) → i < length ws → get_or after i 0 ≤ get_or ws i 0
  pub sum_is : sum after + min (sum requests) excess ≡ sum ws

-- what is given up leaves three at least, where the requests do
pub grants_fit : (order ws requests : List ℕ) (excess : ℕ) → length order ≡ length ws → LeaveThree requests ws → (i : ℕ) → i < length ws → get_or (grants order requests excess) i 0 + 3 ≤ get_or ws i 0
grants_fit order ws requests excess e leave i l = omega (arith, grants-le order requests excess i (subst (λ n. i < n) (sym e) l), leave i l)

-- widths that are narrowed by the grants have made a step
pub step : (order ws requests : List ℕ) (excess : ℕ) (ts : List Turn) → AreTurns order ts → length order ≡ length ws → length requests ≡ length ws → LeaveThree requests ws
    → IsStep order ws requests excess (narrowed ws (grants order requests excess))
step order ws requests excess ts turns e f leave =
    let gs = grants order requests excess in
    let cut : (i : ℕ) → i < length ws → get_or gs i 0 + 3 ≤ get_or ws i 0 = grants_fit order ws requests excess e leave in
    record {
      length_is = length-narrowed ws gs;
      wide = λ i l. omega (arith, get_or-narrowed ws gs i, cut i (subst (λ n. i < n) (length-narrowed ws gs) l));
      narrower = λ i l. omega (arith, get_or-narrowed ws gs i);
      sum_is = omega (arith, sum-grants order requests excess ts turns (f ∙ sym e), sum-narrowed ws gs (length-grants order requests excess ∙ e) (λ i l. omega (arith, cut i l)));
    }

-- ---- the first step's requests

-- each column has a natural width
pub length-naturals : (ns : List Needs) → length (natural_widths ns) ≡ length ns
length-naturals ns = length-map ns (λ n. n.natural)

-- a column's natural width is that of its needs
pub get_or-naturals : (ns : List Needs) (i : ℕ) (d : Needs) → i < length ns → get_or (natural_widths ns) i 0 ≡ (get_or ns i d).natural
get_or-naturals ns i d l = get_or-map (λ n. n.natural) ns i d 0 l

first_request_leaves : (spares goal : ℕ) (n : Needs) → 3 ≤ n.natural → first_request spares goal n + 3 ≤ n.natural
first_request_leaves spares goal n h =
    let test = ltb 0 goal && (ltb 4 n.natural && ltb 0 (over_average n)) in
    cond_both test (min (div_ceil (over_average n * goal) spares) (n.natural - 4)) 0 (λ v. v + 3 ≤ n.natural)
    (λ t. let wide : 4 < n.natural = ltb-true 4 n.natural (and_parts (ltb 4 n.natural) (ltb 0 (over_average n)) (and_parts (ltb 0 goal) (ltb 4 n.natural && ltb 0 (over_average n)) t).1).0 in omega (arith, wide))
    (λ _. omega (arith, h))

-- each column has a request in the first step
pub length-first_requests : (excess : ℕ) (ns : List Needs) → length (first_requests excess ns) ≡ length ns
unfolding first_requests
length-first_requests excess ns = length-map ns (first_request (sum_by spare ns) (min (sum_by spare ns) excess))

-- the requests of the first step leave three at least
pub first_leave : (excess : ℕ) (ns : List Needs) → All (λ n. 3 ≤ n.natural) ns → LeaveThree (first_requests excess ns) (natural_widths ns)
unfolding first_requests
first_leave excess ns h i l =
    let d : Needs = record { natural = 0; average = 0 } in
    let within : i < length ns = subst (λ n. i < n) (length-naturals ns) l in
    let f = first_request (sum_by spare ns) (min (sum_by spare ns) excess) in
    let leaves : f (get_or ns i d) + 3 ≤ (get_or ns i d).natural = first_request_leaves (sum_by spare ns) (min (sum_by spare ns) excess) (get_or ns i d) (All-get_or (λ n. 3 ≤ n.natural) ns i d within h) in
    omega (arith, get_or-map f ns i d 0 within, get_or-naturals ns i d within, leaves)

-- ---- the second step's requests

-- each column has a request in the second step
pub length-second_requests : (excess : ℕ) (ws : List ℕ) → length (second_requests excess ws) ≡ length ws
unfolding second_requests
length-second_requests excess ws = length-map ws (second_request excess (above_three ws))

-- the requests of the second step leave three at least
pub second_leave : (excess : ℕ) (ws : List ℕ) → AreWide ws → LeaveThree (second_requests excess ws) ws
unfolding second_requests
second_leave excess ws h i l = omega (arith, get_or-map (second_request excess (above_three ws)) ws i 0 0 l, h i l)

-- of a columns, those to give up and those to keep
pub shares : (a l r s : ℕ) → l + r ≡ s → 0 < s → div_ceil (a * l) s + a * r / s ≡ a
shares a l r s e pos =
    let c = div_ceil (a * l) s in
    let q = a * r / s in
    let parts : a * l + a * r ≡ a * s = sym (mul-add a l r) ∙ ap (λ n. a * n) e in
    let up = div_ceil_times (a * l) s pos in
    let low : q * s ≤ a * r = div-mul-le_self (a * r) s in
    let high : a * r < q * s + s = lt-div-mul-add pos in
    let one : (c + q + 1) * s ≡ c * s + q * s + s = add-mul (c + q) 1 s ∙ omega (arith, add-mul c q s, one-mul s) in
    let two : (a + 1) * s ≡ a * s + s = add-mul a 1 s ∙ omega (arith, one-mul s) in
    let three : (c + q) * s ≡ c * s + q * s = add-mul c q s in
    let f : a * s < (c + q + 1) * s = omega (arith, one, parts, up.0, high) in
    let g : (c + q) * s < (a + 1) * s = omega (arith, three, two, parts, up.1, low) in
    let h : a < c + q + 1 = lt_of_mul-lt-mul_right s f in
    let k : c + q < a + 1 = lt_of_mul-lt-mul_right s g in
    omega (arith, h, k)

-- the second step's request in the form that needs no wider numbers
pub second_request_is : (w l r s : ℕ) → l + r ≡ s → 0 < s → second_request l s w ≡ (w - 3) - (w - 3) * r / s
second_request_is w l r s e pos = omega (arith, shares (w - 3) l r s e pos)

-- what the columns keep above three
kept : ℕ → ℕ → List ℕ → ℕ
kept r s [] = 0
kept r s (w ∷ ws) = (w - 3) * r / s + kept r s ws

kept-le : (r s : ℕ) (ws : List ℕ) → kept r s ws * s ≤ above_three ws * r
unfolding kept
kept-le r s [] = omega arith
kept-le r s (w ∷ ws) =
    let q = (w - 3) * r / s in
    let one : q * s ≤ (w - 3) * r = div-mul-le_self ((w - 3) * r) s in
    let sums : above_three (w ∷ ws) ≡ (w - 3) + above_three ws = sum_by-cons (λ (w : ℕ). w - 3) w ws in
    let right : above_three (w ∷ ws) * r ≡ (w - 3) * r + above_three ws * r = ap (λ n. n * r) sums ∙ add-mul (w - 3) (above_three ws) r in
    omega (arith, one, kept-le r s ws, add-mul q (kept r s ws) s, right)

sum_kept : (l r s : ℕ) (ws : List ℕ) → l + r ≡ s → 0 < s → sum (map (second_request l s) ws) + kept r s ws ≡ above_three ws
unfolding kept
sum_kept l r s [] e pos = refl
sum_kept l r s (w ∷ ws) e pos =
    omega (arith, shares (w - 3) l r s e pos, sum_kept l r s ws e pos, sum_by-cons (λ (w : ℕ). w - 3) w ws, sum_by-cons (λ (x : ℕ). x) (second_request l s w) (map (second_request l s) ws))

-- together they request for the whole excess
pub second_enough : (l r : ℕ) (ws : List ℕ) → l + r ≡ above_three ws → l ≤ sum (second_requests l ws)
unfolding second_requests
second_enough l r ws e =
    let s = above_three ws in
    elim (cases_lt 0 s) [
      | inr z ↦ omega (arith, e, z)
      | inl pos ↦
          let m : kept r s ws * s ≤ r * s = subst (λ n. kept r s ws * s ≤ n) (mul_comm s r) (kept-le r s ws) in
          let k : kept r s ws ≤ r = le_of_mul-le-mul_right m pos in
          omega (arith, sum_kept l r s ws e pos, e, k)
    ]

above_all : (ws : List ℕ) → AllByRecursion (λ w. 3 ≤ w) ws → above_three ws + 3 * length ws ≡ sum ws
above_all [] h = refl
above_all (w ∷ ws) h = omega (arith, h.0, above_all ws h.1, sum_by-cons (λ (w : ℕ). w - 3) w ws, sum_by-cons (λ (x : ℕ). x) w ws)

-- the sum of widths of three at least is three for each, and what they are above it
pub above_is : (ws : List ℕ) → AreWide ws → above_three ws + 3 * length ws ≡ sum ws
above_is ws h = above_all ws (recursion_from_All (λ w. 3 ≤ w) ws (All-from_get_or (λ w. 3 ≤ w) ws 0 h))

-- with no excess left nothing is given up
pub none_given : (order ws requests : List ℕ) → length order ≡ length ws → narrowed ws (grants order requests 0) ≡ ws
none_given order ws requests e =
    ext_get_or 0 (narrowed ws (grants order requests 0)) ws (length-narrowed ws (grants order requests 0)) (λ i l.
    let within : i < length order = subst (λ n. i < n) (length-narrowed ws (grants order requests 0) ∙ sym e) l in
    omega (arith, get_or-narrowed ws (grants order requests 0) i, get_or-grants order requests 0 i within))

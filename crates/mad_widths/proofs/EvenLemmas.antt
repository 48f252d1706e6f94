-- Of two columns with the same needs the right one isn't narrower.
use Rattle.std.proofs.Common.{◌≡◌, ◌≢◌, ℕ, ◌+◌, ◌-◌, ◌*◌, ◌/◌, ◌≤◌, ◌<◌, inl, inr, min, true, false, cond, eqb, List, [], ◌∷◌, length, map, get_or, sum_by, sym, ap, ◌∙◌, arith, subst, add-mul, one-mul, mul-le-mul_right, le-div_iff_mul-le, div-mul-le_self, le_trans}
use Rattle.std.proofs.lemmas.Bool.{cases_eq, cases_lt, cases_Bool, both_ways, eq-eqb, ne_eqb}
use Rattle.std.proofs.lemmas.List.{get_or-map}
use Rattle.mad_widths.specs.Turns.{Turn, turns_from, goes_before, requested_before, grants, AreTurns}
use Rattle.mad_widths.specs.ColumnWidths.{Needs, natural_widths, narrowed, spare, first_request, first_requests, above_three, second_request, second_requests, AreEven}
use Rattle.mad_widths.proofs.Granted.{cond_yes, cond_no, times}
use Rattle.mad_widths.proofs.TurnLemmas.{not_before_from, not_before_trans, before_other, before, HaveWidths, turn_at, before_permuted, turns_once, turns_widths}
use Rattle.mad_widths.proofs.GrantLemmas.{get_or-grants}
use Rattle.mad_widths.proofs.ShareLemmas.{get_or-narrowed, get_or-naturals, length-naturals, second_request_is, shares, none_given, AreWide}

-- what comes before one of two equal columns, with what it requests itself, comes before the other
before_equal : (requests ws : List ℕ) (i j : ℕ) (ts : List Turn) → HaveWidths ws ts → get_or ws i 0 ≡ get_or ws j 0 → i < j → before requests (turn_at ws i) ts + times i ts * get_or requests i 0 ≤ before requests (turn_at ws j) ts
before_equal requests ws i j [] widths same lower = omega arith
before_equal requests ws i j (t ∷ ts) widths same lower =
    let x = turn_at ws i in
    let y = turn_at ws j in
    let a = get_or requests t.column 0 in
    let rest : before requests x ts + times i ts * get_or requests i 0 ≤ before requests y ts = before_equal requests ws i j ts widths.1 same lower in
    let y_late : goes_before y x ≡ false = not_before_from y x (omega (arith, same)) (λ _. omega (arith, lower)) in
    elim (cases_eq t.column i) [
      | inl e ↦
          let w : t.width ≡ get_or ws i 0 = widths.0 ∙ ap (λ k. get_or ws k 0) e in
          let own : goes_before t x ≡ false = not_before_from t x (omega (arith, w)) (λ _. omega (arith, e)) in
          let late : goes_before y t ≡ false = not_before_from y t (omega (arith, w, same)) (λ _. omega (arith, e, lower)) in
          let ne : t.column ≢ y.column = λ f. absurd (omega (arith, e, f, lower)) in
          let first : goes_before t y ≡ true = before_other t y late ne in
          let once : times i (t ∷ ts) ≡ 1 + times i ts = let k : cond (eqb t.column i) 1 0 ≡ 1 = cond_yes (eqb t.column i) 1 0 (eq-eqb t.column i e) in omega (arith, k) in
          let many : times i (t ∷ ts) * get_or requests i 0 ≡ get_or requests i 0 + times i ts * get_or requests i 0 = ap (λ n. n * get_or requests i 0) once ∙ add-mul 1 (times i ts) (get_or requests i 0) ∙ omega (arith, one-mul (get_or requests i 0)) in
          let same_request : a ≡ get_or requests i 0 = ap (λ k. get_or requests k 0) e in
          omega (arith, rest, many, same_request, cond_no (goes_before t x) a 0 own, cond_yes (goes_before t y) a 0 first)
      | inr ne ↦
          let never : times i (t ∷ ts) ≡ times i ts = let k : cond (eqb t.column i) 1 0 ≡ 0 = cond_no (eqb t.column i) 1 0 (ne_eqb t.column i ne) in omega (arith, k) in
          let many : times i (t ∷ ts) * get_or requests i 0 ≡ times i ts * get_or requests i 0 = ap (λ n. n * get_or requests i 0) never in
          elim (cases_Bool (goes_before t x)) [
            | inl before_x ↦
                let first : goes_before t y ≡ true = elim (cases_Bool (goes_before t y)) [
                  | inl here ↦ here
                  | inr late ↦ absurd (both_ways (goes_before t x) (not_before_trans t y x late y_late) before_x)
                ] in
                omega (arith, rest, many, cond_yes (goes_before t x) a 0 before_x, cond_yes (goes_before t y) a 0 first)
            | inr after_x ↦ omega (arith, rest, many, cond_no (goes_before t x) a 0 after_x)
          ]
    ]

-- of two columns of equal width, what is requested before the left one and by it is requested before the right one too
pub requested_equal : (requests ws : List ℕ) (i j : ℕ) (ts : List Turn) → AreTurns ws ts → get_or ws i 0 ≡ get_or ws j 0 → i < j → i < length ws → requested_before requests (turns_from 0 ws) (turn_at ws i) + get_or requests i 0 ≤ requested_before requests (turns_from 0 ws) (turn_at ws j)
requested_equal requests ws i j ts h same lower within =
    let once : times i ts ≡ 1 = turns_once ws ts i h within in
    let one : times i ts * get_or requests i 0 ≡ get_or requests i 0 = ap (λ n. n * get_or requests i 0) once ∙ one-mul (get_or requests i 0) in
    omega (arith, before_equal requests ws i j ts (turns_widths ws ts h) same lower, one, before_permuted requests (turn_at ws i) (turns_from 0 ws) ts h.all, before_permuted requests (turn_at ws j) (turns_from 0 ws) ts h.all)

-- a step keeps them in order, where what they request does
step_even : (order ws requests : List ℕ) (excess i j : ℕ) (ts : List Turn) → AreTurns order ts → get_or order i 0 ≡ get_or order j 0 → i < j → j < length order → get_or ws i 0 ≤ get_or ws j 0 → get_or ws i 0 - get_or requests i 0 ≤ get_or ws j 0 - get_or requests j 0
    → get_or (narrowed ws (grants order requests excess)) i 0 ≤ get_or (narrowed ws (grants order requests excess)) j 0
step_even order ws requests excess i j ts h same lower within ordered requested =
    let within' : i < length order = omega (arith, lower, within) in
    omega (
      arith,
      get_or-narrowed ws (grants order requests excess) i,
      get_or-narrowed ws (grants order requests excess) j,
      get_or-grants order requests excess i within',
      get_or-grants order requests excess j within,
      requested_equal requests order i j ts h same lower within',
      ordered,
      requested,
    )

div_le : (a b s : ℕ) → 0 < s → a ≤ b → a / s ≤ b / s
div_le a b s pos l = (le-div_iff_mul-le pos).1 (le_trans (div-mul-le_self a s) l)

request_even : (v w l r s : ℕ) → l + r ≡ s → 0 < s → v ≤ w → 3 ≤ v → v - second_request l s v ≤ w - second_request l s w
request_even v w l r s e pos ordered least =
    let m : (v - 3) * r / s ≤ (w - 3) * r / s = div_le ((v - 3) * r) ((w - 3) * r) s pos (mul-le-mul_right r (omega (arith, ordered))) in
    omega (arith, m, second_request_is v l r s e pos, second_request_is w l r s e pos, ordered, least, shares (v - 3) l r s e pos, shares (w - 3) l r s e pos)

-- after the first step the right one of two columns with the same needs isn't narrower
pub first_even : (excess : ℕ) (ns : List Needs) (ts : List Turn) → AreTurns (natural_widths ns) ts → AreEven ns (narrowed (natural_widths ns) (grants (natural_widths ns) (first_requests excess ns) excess))
unfolding first_requests
first_even excess ns ts h i j d lower within same =
    let order = natural_widths ns in
    let f = first_request (sum_by spare ns) (min (sum_by spare ns) excess) in
    let within' : i < length ns = omega (arith, lower, within) in
    let widths : get_or order i 0 ≡ get_or order j 0 = get_or-naturals ns i d within' ∙ ap (λ n. n.natural) same ∙ sym (get_or-naturals ns j d within) in
    let requests : get_or (map f ns) i 0 ≡ get_or (map f ns) j 0 = get_or-map f ns i d 0 within' ∙ ap f same ∙ sym (get_or-map f ns j d 0 within) in
    step_even order order (map f ns) excess i j ts h widths lower (subst (λ n. j < n) (sym (length-naturals ns)) within) (omega (arith, widths)) (omega (arith, widths, requests))

-- the second step leaves the right one of two such columns no narrower, where it was so
pub second_even : (left r : ℕ) (ns : List Needs) (ts : List Turn) (ws : List ℕ) → AreTurns (natural_widths ns) ts → left + r ≡ above_three ws → length ws ≡ length ns → AreWide ws → AreEven ns ws
    → AreEven ns (narrowed ws (grants (natural_widths ns) (second_requests left ws) left))
unfolding second_requests
second_even left r ns ts ws h e len wide even i j d lower within same =
    let order = natural_widths ns in
    let f = second_request left (above_three ws) in
    let within' : i < length ns = omega (arith, lower, within) in
    let widths : get_or order i 0 ≡ get_or order j 0 = get_or-naturals ns i d within' ∙ ap (λ n. n.natural) same ∙ sym (get_or-naturals ns j d within) in
    let ordered : get_or ws i 0 ≤ get_or ws j 0 = even i j d lower within same in
    let i1 : i < length ws = omega (arith, within', len) in
    let j1 : j < length ws = omega (arith, within, len) in
    elim (cases_lt 0 left) [
      | inl some ↦
          let pos : 0 < above_three ws = omega (arith, some, e) in
          let requested : get_or ws i 0 - f (get_or ws i 0) ≤ get_or ws j 0 - f (get_or ws j 0) = request_even (get_or ws i 0) (get_or ws j 0) left r (above_three ws) e pos ordered (wide i i1) in
          step_even order ws (map f ws) left i j ts h widths lower (subst (λ n. j < n) (sym (length-naturals ns)) within) ordered (omega (arith, requested, get_or-map f ws i 0 0 i1, get_or-map f ws j 0 0 j1))
      | inr none ↦
          let zero_left : left ≡ 0 = omega (arith, none) in
          let unchanged : ws ≡ narrowed ws (grants order (map f ws) left) =
          sym (none_given order ws (map f ws) (length-naturals ns ∙ sym len)) ∙ ap (λ n. narrowed ws (grants order (map f ws) n)) (sym zero_left) in
          subst (λ l. get_or l i 0 ≤ get_or l j 0) unchanged ordered
    ]

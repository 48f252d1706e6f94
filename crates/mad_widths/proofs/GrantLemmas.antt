-- What is given up turn by turn is what the definition says.
use Rattle.std.proofs.Common.{◌≡◌, ℕ, ◌+◌, ◌-◌, ◌≤◌, ◌<◌, min, List, length, get_or, sum, sym, ap, ◌∙◌, arith, subst, ext_get_or}
use Rattle.std.proofs.lemmas.List.{get_or-map, length-map}
use Rattle.mad_widths.specs.Turns.{Turn, turns_from, granted_at, requested_before, grants, AreTurns}
use Rattle.mad_widths.proofs.Granted.{granted, left_after, times, requested, requested_in_front, granted_at_turn, left_is, length-granted, requested-granted, HaveColumns}
use Rattle.mad_widths.proofs.TurnLemmas.{turn_at, front_is, before_permuted, requested_permuted, length-turns_from, get_or-turns_from, requested_all, turns_apart, turns_once, turns_widths, turns_columns, turns_fall}

-- each column has a grant
pub length-grants : (ws requests : List ℕ) (excess : ℕ) → length (grants ws requests excess) ≡ length ws
unfolding grants
length-grants ws requests excess = length-map (turns_from 0 ws) (granted_at requests excess (turns_from 0 ws)) ∙ length-turns_from 0 ws

-- a column's grant is what it gives up at its turn
pub get_or-grants : (ws requests : List ℕ) (excess i : ℕ) → i < length ws → get_or (grants ws requests excess) i 0 ≡ granted_at requests excess (turns_from 0 ws) (turn_at ws i)
unfolding grants
get_or-grants ws requests excess i l =
    let d : Turn = record { width = 0; column = 0 } in
    let G = granted_at requests excess (turns_from 0 ws) in
    let within : i < length (turns_from 0 ws) = subst (λ n. i < n) (sym (length-turns_from 0 ws)) l in
    let e : 0 + i ≡ i = omega arith in
    get_or-map G (turns_from 0 ws) i d 0 within
    ∙ ap G (get_or-turns_from 0 ws i d l)
    ∙ ap (λ p. G (record { width = get_or ws i 0; column = p })) e

-- requests that are cut down turn by turn are the grants
pub grants_are : (ws requests : List ℕ) (left : ℕ) (ts : List Turn) → AreTurns ws ts → length requests ≡ length ws → granted requests left ts ≡ grants ws requests left
grants_are ws requests left ts h e =
    ext_get_or 0 (granted requests left ts) (grants ws requests left) (length-granted requests left ts ∙ e ∙ sym (length-grants ws requests left)) (λ i l.
    let within : i < length requests = subst (λ n. i < n) (length-granted requests left ts) l in
    let within' : i < length ws = subst (λ n. i < n) e within in
    let once : times i ts ≡ 1 = turns_once ws ts i h within' in
    let front : requested_in_front requests i ts ≡ requested_before requests (turns_from 0 ws) (turn_at ws i) =
    front_is requests ws i ts (turns_fall ws ts h) once (turns_widths ws ts h) ∙ before_permuted requests (turn_at ws i) (turns_from 0 ws) ts h.all in
    granted_at_turn requests left ts i (turns_apart ws ts h) once within
    ∙ ap (λ n. min (get_or requests i 0) (left - n)) front
    ∙ sym (get_or-grants ws requests left i within'))

requested_whole : (ws xs : List ℕ) (ts : List Turn) → AreTurns ws ts → length xs ≡ length ws → requested xs ts ≡ sum xs
requested_whole ws xs ts h e = requested_permuted xs (turns_from 0 ws) ts h.all ∙ requested_all xs 0 ws (omega (arith, e))

-- after all turns what the requests don't take of the excess is left
pub left_over : (ws requests : List ℕ) (left : ℕ) (ts : List Turn) → AreTurns ws ts → length requests ≡ length ws → left_after requests left ts ≡ left - sum requests
left_over ws requests left ts h e = left_is requests left ts (turns_apart ws ts h) ∙ ap (λ n. left - n) (requested_whole ws requests ts h e)

-- all together give up what they request, but no more than the excess
pub sum-grants : (ws requests : List ℕ) (left : ℕ) (ts : List Turn) → AreTurns ws ts → length requests ≡ length ws → sum (grants ws requests left) ≡ min (sum requests) left
sum-grants ws requests left ts h e =
    let same : granted requests left ts ≡ grants ws requests left = grants_are ws requests left ts h e in
    ap sum (sym same)
    ∙ sym (requested_whole ws (granted requests left ts) ts h (length-granted requests left ts ∙ e))
    ∙ requested-granted requests left ts (turns_apart ws ts h) (subst (λ n. HaveColumns n ts) (sym e) (turns_columns ws ts h))
    ∙ ap (λ n. min n left) (requested_whole ws requests ts h e)

-- none gives up more than it requests
pub grants-le : (ws requests : List ℕ) (left i : ℕ) → i < length ws → get_or (grants ws requests left) i 0 ≤ get_or requests i 0
grants-le ws requests left i l = omega (arith, get_or-grants ws requests left i l)

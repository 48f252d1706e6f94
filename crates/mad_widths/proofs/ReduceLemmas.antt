-- The two steps, as the program takes them.
use Rattle.std.proofs.Common.{◌≡◌, ℕ, ◌-◌, ◌*◌, ◌≤◌, ◌<◌, List, length, map, sum, refl, sym, ap, ◌∙◌, arith, subst}
use Rattle.std.specs.declared.cmp.Reverse.{Reverse}
use Rattle.mad_widths.specs.Turns.{Turn, turn_of, grants, AreTurns, CanGiveUp}
use Rattle.mad_widths.specs.ColumnWidths.{natural_widths, narrowed, first_requests, above_three, second_requests, after_first, IsHalfway, AreReduced}
use Rattle.mad_widths.specs.SeenCells.{needs_in}
use Rattle.mad_widths.specs.declared.sharing.SeenColumn.{SeenColumn}
use Rattle.mad_widths.proofs.CellLemmas.{naturals_wide}
use Rattle.mad_widths.proofs.TurnLemmas.{turns_within}
use Rattle.mad_widths.proofs.ShareLemmas.{LeaveThree, IsStep, first_leave, second_leave, length-naturals, length-first_requests, length-second_requests, none_given}
use Rattle.mad_widths.proofs.WidthLemmas.{IsBetween, between, first_step, whole}

-- what `give_up_in_turn` ensures of a result, for any order of the turns
abbrev pub InTurn : List (Reverse ℕ × ℕ) → List ℕ → (List ℕ → Type 0) → Type 0
InTurn us requests P = (order : List ℕ) → AreTurns order (map turn_of us) → length requests ≡ length order → P order

-- requests that leave three columns each can be given up
pub gives : (order ws requests : List ℕ) (us : List (Reverse ℕ × ℕ)) → AreTurns order (map turn_of us) → length order ≡ length ws → length requests ≡ length ws → LeaveThree requests ws → CanGiveUp ws requests us
gives order ws requests us turns e f leave = record {
  count = f;
  within = λ k l. omega (arith, leave k (subst (λ n. k < n) f l));
  columns = turns_within order us (length requests) turns (e ∙ sym f);
}

-- the first step's requests can be given up
pub first_gives : (columns : List SeenColumn) (excess : ℕ) (ws requests : List ℕ) (us : List (Reverse ℕ × ℕ)) → ws ≡ natural_widths (map needs_in columns) → AreTurns (natural_widths (map needs_in columns)) (map turn_of us) → requests ≡ first_requests excess (map needs_in columns) → CanGiveUp ws requests us
first_gives columns excess ws requests us same turns f =
    let ns = map needs_in columns in
    let order = natural_widths ns in
    rw (same, f) (gives order order (first_requests excess ns) us turns refl (length-first_requests excess ns ∙ sym (length-naturals ns)) (first_leave excess ns (naturals_wide columns)))

-- what is left when they are
pub first_done : (columns : List SeenColumn) (available total left : ℕ) (ws requests after : List ℕ) (us : List (Reverse ℕ × ℕ)) → ws ≡ natural_widths (map needs_in columns) → AreTurns (natural_widths (map needs_in columns)) (map turn_of us) → total ≡ sum ws → available < total
    → requests ≡ first_requests (total - available) (map needs_in columns) → InTurn us requests (λ _. left ≡ total - available - sum requests) → InTurn us requests (λ order. after ≡ narrowed ws (grants order requests (total - available))) → IsHalfway available left (map needs_in columns) after
unfolding after_first
first_done columns available total left ws requests after us same turns t more f l w =
    let ns = map needs_in columns in
    let order = natural_widths ns in
    let excess = sum order - available in
    let len : length requests ≡ length order = ap length f ∙ length-first_requests (total - available) ns ∙ sym (length-naturals ns) in
    let e : total ≡ sum order = t ∙ ap sum same in
    let g : requests ≡ first_requests excess ns = f ∙ ap (λ n. first_requests (n - available) ns) e in
    let is' : after ≡ after_first available ns = w order turns len ∙ ap (λ n. narrowed ws (grants order requests (n - available))) e ∙ ap (λ v. narrowed v (grants order requests excess)) same ∙ ap (λ r. narrowed order (grants order r excess)) g in
    let s : IsStep order order (first_requests excess ns) excess (after_first available ns) = first_step available ns (map turn_of us) turns (naturals_wide columns) in
    record { is = is'; sum_is = omega (arith, ap sum is', s.sum_is, l order turns len, ap sum g, e, more) }

-- the second step's requests can be given up, and that leaves the reduced widths
pub second_taken : (columns : List SeenColumn) (available left : ℕ) (ws requests : List ℕ) (us : List (Reverse ℕ × ℕ)) → IsHalfway available left (map needs_in columns) ws → AreTurns (natural_widths (map needs_in columns)) (map turn_of us) → 3 * length columns ≤ available
    → requests ≡ second_requests (above_three ws - (available - 3 * length columns)) ws
    → CanGiveUp ws requests us × ((after : List ℕ) → InTurn us requests (λ order. after ≡ narrowed ws (grants order requests left)) → AreReduced available (map needs_in columns) after)
second_taken columns available left ws requests us h turns wide_enough f =
    let ns = map needs_in columns in
    let order = natural_widths ns in
    let b : IsBetween available left columns ws = between columns available left (map turn_of us) ws h turns wide_enough in
    let rest : above_three ws - (available - 3 * length columns) ≡ left = omega (arith, b.above) in
    let g : requests ≡ second_requests left ws = f ∙ ap (λ l. second_requests l ws) rest in
    let len : length order ≡ length ws = length-naturals ns ∙ sym b.length_is in
    let count : length requests ≡ length ws = ap length g ∙ length-second_requests left ws in (
      gives order ws requests us turns len count (subst (λ x. LeaveThree x ws) (sym g) (second_leave left ws b.wide)),
      λ after w. whole columns available left (map turn_of us) ws after h turns b (w order turns (count ∙ sym len) ∙ ap (λ x. narrowed ws (grants order x left)) g),
    )

-- with nothing left they are the reduced widths already
pub second_none : (columns : List SeenColumn) (available left : ℕ) (ts : List Turn) (ws : List ℕ) → IsHalfway available left (map needs_in columns) ws → AreTurns (natural_widths (map needs_in columns)) ts → 3 * length columns ≤ available → left ≡ 0 → AreReduced available (map needs_in columns) ws
second_none columns available left ts ws h turns wide_enough none =
    let order = natural_widths (map needs_in columns) in
    let b : IsBetween available left columns ws = between columns available left ts ws h turns wide_enough in
    let unchanged = none_given order ws (second_requests left ws) (length-naturals (map needs_in columns) ∙ sym b.length_is) in
    whole columns available left ts ws ws h turns b (sym unchanged ∙ ap (λ n. narrowed ws (grants order (second_requests left ws) n)) (sym none))

-- The two steps together, and what the column widths are.
use Rattle.std.proofs.Common.{◌≡◌, ◌≢◌, ℕ, ◌+◌, ◌-◌, ◌*◌, ◌≤◌, ◌<◌, true, false, cond, not, eqb, ltb, leb, List, [], ◌∷◌, length, map, get_or, sum, refl, sym, ap, ◌∙◌, arith, subst, All}
use Rattle.std.proofs.lemmas.Bool.{cond-true, cond-false, le-leb, lt-leb, lt-ltb, le-ltb, eq-eqb, ne_eqb, and_left, and_right, and_from, not_from_true, not_from_false}
use Rattle.std.proofs.lemmas.List.{length-map}
use Rattle.mad_widths.specs.Turns.{Turn, grants, AreTurns}
use Rattle.mad_widths.specs.ColumnWidths.{Needs, natural_widths, narrowed, first_requests, above_three, second_requests, after_first, after_second, column_widths, AreEven, IsHalfway, AreReduced}
use Rattle.mad_widths.specs.SeenCells.{needs_in}
use Rattle.mad_widths.specs.TableFits.{IsFit}
use Rattle.mad_widths.specs.declared.sharing.SeenColumn.{SeenColumn}
use Rattle.mad_widths.specs.declared.tbl_fit.TblFitResult.{TblFitResult}
use Rattle.mad_widths.proofs.CellLemmas.{naturals_wide}
use Rattle.mad_widths.proofs.EvenLemmas.{first_even, second_even}
use Rattle.mad_widths.proofs.ShareLemmas.{IsStep, step, AreWide, first_leave, length-first_requests, second_leave, length-second_requests, second_enough, above_is, length-naturals, get_or-naturals, all_zip_from}

-- ---- the first step

-- what it leaves of the natural widths
pub first_step : (available : ℕ) (ns : List Needs) (ts : List Turn) → AreTurns (natural_widths ns) ts → All (λ n. 3 ≤ n.natural) ns
    → IsStep (natural_widths ns) (natural_widths ns) (first_requests (sum (natural_widths ns) - available) ns) (sum (natural_widths ns) - available) (after_first available ns)
unfolding after_first
first_step available ns ts turns wide =
    step (natural_widths ns) (natural_widths ns) (first_requests (sum (natural_widths ns) - available) ns) (sum (natural_widths ns) - available) ts turns refl
    (length-first_requests (sum (natural_widths ns) - available) ns ∙ sym (length-naturals ns))
    (first_leave (sum (natural_widths ns) - available) ns wide)

-- ---- the second step

-- what the second step starts from
pub record IsBetween (available left : ℕ) (columns : List SeenColumn) (ws : List ℕ) : Type 0 where
  pub above : left + (available - 3 * length columns) ≡ above_three ws
  pub length_is : length ws ≡ length (map needs_in columns)
  pub wide : AreWide ws
  pub narrower : (i : ℕ) → i < length ws → get_or ws i 0 ≤ get_or (natural_widths (map needs_in columns)) i 0
  pub even : AreEven (map needs_in columns) ws

-- what the first step leaves is what the second one starts from
pub between : (columns : List SeenColumn) (available left : ℕ) (ts : List Turn) (ws : List ℕ) → IsHalfway available left (map needs_in columns) ws → AreTurns (natural_widths (map needs_in columns)) ts → 3 * length columns ≤ available → IsBetween available left columns ws
unfolding after_first
between columns available left ts ws h turns wide_enough =
    let ns = map needs_in columns in
    let order = natural_widths ns in
    let excess = sum order - available in
    let s : IsStep order order (first_requests excess ns) excess ws = subst (IsStep order order (first_requests excess ns) excess) (sym h.is) (first_step available ns ts turns (naturals_wide columns)) in
    let len : length ws ≡ length ns = s.length_is ∙ length-naturals ns in
    record {
      above = omega (arith, above_is ws s.wide, len, length-map columns needs_in, wide_enough, h.sum_is);
      length_is = len;
      wide = s.wide;
      narrower = λ i l. s.narrower i (subst (λ n. i < n) s.length_is l);
      even = subst (AreEven ns) (sym h.is) (first_even excess ns ts turns);
    }

-- the second step leaves widths whose sum is exactly what is available
pub whole : (columns : List SeenColumn) (available left : ℕ) (ts : List Turn) (ws after : List ℕ) → IsHalfway available left (map needs_in columns) ws → AreTurns (natural_widths (map needs_in columns)) ts → IsBetween available left columns ws
    → after ≡ narrowed ws (grants (natural_widths (map needs_in columns)) (second_requests left ws) left) → AreReduced available (map needs_in columns) after
unfolding after_second
whole columns available left ts ws after h turns b e =
    let ns = map needs_in columns in
    let order = natural_widths ns in
    let requests = second_requests left ws in
    let rest = available - 3 * length columns in
    let len : length order ≡ length ws = length-naturals ns ∙ sym b.length_is in
    let s : IsStep order ws requests left after = subst (IsStep order ws requests left) (sym e) (step order ws requests left ts turns len (length-second_requests left ws) (second_leave left ws b.wide)) in
    let left_is : left ≡ sum ws - available = omega (arith, h.sum_is) in
    record {
      is = e ∙ ap (λ l. narrowed ws (grants order (second_requests l ws) l)) left_is ∙ ap (λ v. narrowed v (grants order (second_requests (sum v - available) v) (sum v - available))) h.is;
      sum_is = omega (arith, s.sum_is, second_enough left rest ws b.above, h.sum_is);
      within = all_zip_from (λ w n. (3 ≤ w) × (w ≤ n)) after order (s.length_is ∙ sym len) (λ i l.
          let l' : i < length ws = subst (λ n. i < n) s.length_is l in
          (s.wide i l, omega (arith, s.narrower i l', b.narrower i l')));
      even = subst (AreEven ns) (sym e) (second_even left rest ns ts ws turns b.above b.length_is b.wide b.even);
    }

-- ---- the three cases

-- natural widths that fit together are the fit
pub fit_whole : (available : ℕ) (ns : List Needs) (fitted : TblFitResult) → sum (natural_widths ns) ≤ available → fitted.col_widths.items ≡ natural_widths ns → fitted.reduced ≡ false → IsFit available ns fitted
unfolding column_widths
fit_whole available ns fitted l e r = record {
  widths = e ∙ sym (cond-true (leb (sum (natural_widths ns)) available) (natural_widths ns) (cond (eqb (length ns) 1) (available ∷ []) (after_second available ns)) (le-leb (sum (natural_widths ns)) available l));
  reduced_is = r ∙ sym (and_left (ltb available (sum (natural_widths ns))) (not (eqb (length ns) 1)) (le-ltb available (sum (natural_widths ns)) l));
  shared = record { fitting = λ _. (e, r); single = λ m _. absurd (omega (arith, l, m)); shared = λ m _. absurd (omega (arith, l, m)) };
  even = λ i j d lower within same.
      let within' : i < length ns = omega (arith, lower, within) in
      let widths : get_or (natural_widths ns) i 0 ≡ get_or (natural_widths ns) j 0 = get_or-naturals ns i d within' ∙ ap (λ n. n.natural) same ∙ sym (get_or-naturals ns j d within) in
      subst (λ v. get_or v i 0 ≤ get_or v j 0) (sym e) (omega (arith, widths));
}

-- a single column that needs more has all that is available
pub fit_single : (available : ℕ) (ns : List Needs) (fitted : TblFitResult) → available < sum (natural_widths ns) → length ns ≡ 1 → fitted.col_widths.items ≡ available ∷ [] → fitted.reduced ≡ false → IsFit available ns fitted
unfolding column_widths
fit_single available ns fitted m one e r = record {
  widths = e ∙ sym (cond-false (leb (sum (natural_widths ns)) available) (natural_widths ns) (cond (eqb (length ns) 1) (available ∷ []) (after_second available ns)) (lt-leb (sum (natural_widths ns)) available m)
      ∙ cond-true (eqb (length ns) 1) (available ∷ []) (after_second available ns) (eq-eqb (length ns) 1 one));
  reduced_is = r ∙ sym (and_right (ltb available (sum (natural_widths ns))) (not (eqb (length ns) 1)) (not_from_true (eqb (length ns) 1) (eq-eqb (length ns) 1 one)));
  shared = record { fitting = λ l. absurd (omega (arith, l, m)); single = λ _ _. (e, r); shared = λ _ ne. absurd (ne (length-naturals ns ∙ one)) };
  even = λ i j d lower within same. absurd (omega (arith, lower, within, one));
}

-- several columns that need more have what both steps leave
pub fit_shared : (available : ℕ) (ns : List Needs) (fitted : TblFitResult) → available < sum (natural_widths ns) → length ns ≢ 1 → AreReduced available ns fitted.col_widths.items → fitted.reduced ≡ true → IsFit available ns fitted
unfolding column_widths
fit_shared available ns fitted m ne h r = record {
  widths = h.is ∙ sym (cond-false (leb (sum (natural_widths ns)) available) (natural_widths ns) (cond (eqb (length ns) 1) (available ∷ []) (after_second available ns)) (lt-leb (sum (natural_widths ns)) available m)
      ∙ cond-false (eqb (length ns) 1) (available ∷ []) (after_second available ns) (ne_eqb (length ns) 1 ne));
  reduced_is = r ∙ sym (and_from (ltb available (sum (natural_widths ns))) (not (eqb (length ns) 1)) (lt-ltb available (sum (natural_widths ns)) m) (not_from_false (eqb (length ns) 1) (ne_eqb (length ns) 1 ne)));
  shared = record { fitting = λ l. absurd (omega (arith, l, m)); single = λ _ one. absurd (ne (sym (length-naturals ns) ∙ one)); shared = λ _ _. (h.sum_is, h.within, r) };
  even = h.even;
}

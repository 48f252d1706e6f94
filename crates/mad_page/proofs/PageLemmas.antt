-- What the per cent of a page says.
use Rattle.std.proofs.Common.{◌≡◌, ℕ, zero, suc, ◌+◌, ◌*◌, ◌/◌, ◌==◌, ◌<◌, ◌≤◌, Bool, false, min, sym, subst, arith}
use Rattle.std.specs.Prelude.{◌-◌, if◌then◌else◌}
use Rattle.std.proofs.lemmas.Bool.Decides.{nat_tests}
use Rattle.std.proofs.lemmas.Nat.{div_below, le-div, mul-le}
use Rattle.mad_page.specs.PageLaws.{ReachesPercent}
use Rattle.mad_page.specs.Pages.{at_percent, body_rows}

-- the per cent that so many rows are of a text's
abbrev percent_of : ℕ → ℕ → ℕ
percent_of height rows = if height == 0 then 100 else 100 * min rows height / height

some : (k : ℕ) → (suc k == 0) ≡ false
some k = grind (arith, nat_tests)

enough : (height most rows : ℕ) → most ≤ 100 → most * height ≤ 100 * rows → most ≤ percent_of height rows
enough zero most rows fits h = fits
enough (suc k) most rows fits h =
    let all : most * suc k ≤ 100 * suc k = mul-le most (suc k) 100 (suc k) fits (omega arith) in
    subst (λ (b : Bool). most ≤ (if b then 100 else 100 * min rows (suc k) / suc k)) (sym (some k)) (le-div most (100 * min rows (suc k)) (suc k) (omega arith) (omega (arith, h, all)))

too_few : (height most rows : ℕ) → 100 * rows < most * height → percent_of height rows < most
too_few zero most rows h = absurd (omega (arith, h))
too_few (suc k) most rows h =
    subst (λ (b : Bool). (if b then 100 else 100 * min rows (suc k) / suc k) < most) (sym (some k)) (div_below (100 * min rows (suc k)) (suc k) most (omega arith) (omega (arith, h)))

-- rounded up
up : (x rows : ℕ) → x ≤ 100 * (((x + 99) / 100 - rows) + rows)
up x rows = omega arith

below_it : (x row rows : ℕ) → row < (x + 99) / 100 - rows → 100 * (row + rows) < x
below_it x row rows h = omega (arith, h)

pub reaches_percent : ReachesPercent
reaches_percent p count = (
  enough p.height (min count 100) ((at_percent p count).top + body_rows p) (omega arith) (up (min count 100 * p.height) (body_rows p)),
  λ row above. too_few p.height (min count 100) (row + body_rows p) (below_it (min count 100 * p.height) row (body_rows p) above),
)

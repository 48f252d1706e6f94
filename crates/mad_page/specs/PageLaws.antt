-- Laws of pages.
use Rattle.std.specs.Prelude.{ℕ, ◌<◌, ◌≤◌, min}
use Rattle.mad_page.specs.Pages.{at_percent, percent}
use Rattle.mad_page.specs.declared.page.Page.{Page}

-- A page at a per cent tells that per cent or more, and tells less with any row further up on top.
abbrev pub ReachesPercent : Type 0
ReachesPercent = (p : Page) (count : ℕ) → (min count 100 ≤ percent (at_percent p count)) × ((row : ℕ) → row < (at_percent p count).top → percent (record p { top = row }) < min count 100)

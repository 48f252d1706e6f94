-- Rectangles of the screen.
use Rattle.std.specs.Prelude.{ℕ, ◌+◌, ◌^◌, ◌<◌, ◌≤◌}
use Rattle.mad_measure.specs.declared.area.Area.{Area}

-- the area's right and bottom are numbers that a position on the screen may have
pub record IsWithinLimits (a : Area) : Type 0 where
  pub columns : a.left + a.width < 2 ^ 16
  pub rows : a.top + a.height < 2 ^ 16

-- the cell in column x of row y is in the area
pub record HasPosition (a : Area) (x y : ℕ) : Type 0 where
  pub from_left : a.left ≤ x
  pub to_right : x < a.left + a.width
  pub from_top : a.top ≤ y
  pub to_bottom : y < a.top + a.height

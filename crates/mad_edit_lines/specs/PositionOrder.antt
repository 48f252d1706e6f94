-- The order of positions.
use Rattle.std.specs.Prelude.{◌<◌, ◌≤◌, ◌≡◌, ◌⊎◌}
use Rattle.mad_edit_lines.specs.declared.position.Pos.{Pos}

-- on an earlier line, or on the same line and no later in it
abbrev pub IsNotAfter : Pos → Pos → Type 0
IsNotAfter p q = (p.y < q.y) ⊎ ((p.y ≡ q.y) × (p.x ≤ q.x))

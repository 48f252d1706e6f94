-- The text of a line, and the width that its margins leave.
use Rattle.std.specs.Prelude.{ℕ, List}
use Rattle.std.specs.List.{flat_map}
use Rattle.std.specs.Str.{chars}
use Rattle.mad_md.specs.Flagged.{FlaggedChar, Run, flagged}
use Rattle.mad_md.specs.Lines.{StyledRuns}
use Rattle.mad_style.specs.Kinds.{kind_of}
use Rattle.mad_style.specs.LineStyles.{width_inside}
use Rattle.mad_rows.specs.RowStyles.{line_style}
use Rattle.mad_rows.specs.declared.row_skin.RowSkin.{RowSkin}

-- the flagged text of runs
abbrev pub runs_text : List Run → List FlaggedChar
runs_text rs = flat_map (λ r. flagged r.flags (chars r.text)) rs

-- what a line's margins leave of a width
abbrev pub inner_width : RowSkin → ℕ → StyledRuns → ℕ
inner_width skin width line = width_inside (line_style skin (kind_of line.style)) width

-- Styles of lines.
use Rattle.std.specs.Prelude.{ℕ, ◌+◌, ◌-◌, Option, Some, None, nat_lt, if◌then◌else◌}
use Rattle.mad_md.specs.declared.alignment.Alignment.{Alignment}
use Rattle.mad_md.specs.declared.alignment.Alignment.TheVariants.{Unspecified}
use Rattle.mad_term.specs.declared.color.Color.{Color}
use Rattle.mad_style.specs.CompoundStyles.{unstyled, foreground_set, background_set}
use Rattle.mad_style.specs.declared.compound_styles.CompoundStyle.{CompoundStyle}
use Rattle.mad_style.specs.declared.line_styles.LineStyle.{LineStyle}

-- a line's style without margins
abbrev pub unmargined : CompoundStyle → Alignment → LineStyle
unmargined style align = record { compound_style = style; align = align; left_margin = 0; right_margin = 0 }

-- a line without style
abbrev pub unstyled_line : LineStyle
unstyled_line = unmargined unstyled Unspecified

-- a line with another foreground
abbrev pub line_in : Color → LineStyle → LineStyle
line_in color line = record line { compound_style = foreground_set line.compound_style color }

-- a line with another background
abbrev pub line_on : Color → LineStyle → LineStyle
line_on color line = record line { compound_style = background_set line.compound_style color }

-- the margins of a line at a width: none where they would leave less than three columns, and else both. Without a width
-- there is room for both.
abbrev pub margins_at : LineStyle → Option ℕ → ℕ × ℕ
margins_at style None = (style.left_margin, style.right_margin)
margins_at style (Some width) =
    if nat_lt width (style.left_margin + style.right_margin + 3) then (0, 0) else (style.left_margin, style.right_margin)

-- what these margins leave of a width
abbrev pub width_inside : LineStyle → ℕ → ℕ
width_inside style width = let margins = margins_at style (Some width) in width - margins.0 - margins.1

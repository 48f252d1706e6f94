-- What marks make of a style.
use Rattle.std.specs.Prelude.{ℕ, zero, suc, List, Option, Some, None, slice_get}
use Rattle.mad_term.specs.declared.styles.ContentStyle.{ContentStyle}
use Rattle.mad_style.specs.declared.compound_styles.CompoundStyle.{CompoundStyle}
use Rattle.mad_style.specs.CompoundStyles.{overwritten}

-- a style over another, if there is one
abbrev pub painted : Option CompoundStyle → ContentStyle → ContentStyle
painted None style = style
painted (Some over) style = (overwritten (record { object_style = style }) over).object_style

-- the styles of marks are put over another: the first for 1, and so on. 0 and values past the last leave it as it is.
abbrev pub paint_by : List CompoundStyle → ℕ → ContentStyle → ContentStyle
paint_by styles zero style = style
paint_by styles (suc n) style = painted (slice_get styles n) style

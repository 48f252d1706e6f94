-- The commands with which parts begin, made once.
use Rattle.std.specs.Prelude.{◌≡◌, ℕ, ◌<◌, List, length, slice_index_or, string_bytes}
use Rattle.std.specs.declared.alloc.Global.{Global}
use Rattle.std.specs.declared.string.String.{String}
use Rattle.mad_term.specs.Styles.{opening_bytes}
use Rattle.mad_term.specs.declared.styles.ContentStyle.{ContentStyle}
use Rattle.mad_style.specs.declared.compound_styles.CompoundStyle.{CompoundStyle}
use Rattle.mad_marked_rows.specs.Paints.{paint_by}

-- those of marks over a style, by their values
abbrev pub AreOpenings : List CompoundStyle → ContentStyle → List (String Global) → Type 0
AreOpenings styles base ts = (v : ℕ) (d : String Global) → v < length ts → string_bytes (slice_index_or ts v d) ≡ opening_bytes (paint_by styles v base)

-- What a text shows that was written in an area, by way of a layout.
use Rattle.std.specs.Prelude.{ℕ, false, ◌-◌, List, Some, None, Result, take}
use Rattle.mad_md.specs.Lines.{LineContent}
use Rattle.mad_md.specs.Reading.{IsRead, unread_text}
use Rattle.mad_term.specs.Draws.{DrawsSome}
use Rattle.mad_term.specs.Trace.{Trace, TookWith}
use Rattle.mad_term.specs.declared.errors.Error.{Error}
use Rattle.mad_measure.specs.declared.area.Area.{Area}
use Rattle.mad_blocks.specs.Fronts.{IsFrontLayout}
use Rattle.mad_layout.specs.Premises.{KeepsPremises}
use Rattle.mad_layout.specs.Shown.{area_bytes, AreShownIn}
use Rattle.mad_blocks.specs.TextParts.{lines_in_parts}
use Rattle.mad_rows.specs.declared.row_skin.RowSkin.{RowSkin}
use Rattle.mad_format.specs.declared.line.FmtLine.{FmtLine}
use Rattle.mad_rows.specs.RowStyles.{line_rules}

-- The lines are a layout of the text's first lines, one column narrower than the area: of all of them, or of enough to take at least the
-- area's rows.
pub record IsAreaFront (skin : RowSkin) (markdown : List ℕ) (area : Area) (lines : List FmtLine) : Type 0 where
  pub text : List LineContent
  pub read : IsRead (unread_text false markdown) text
  pub layout : IsFrontLayout (line_rules skin) (Some (area.width - 1)) area.height text lines

-- What the call does to its device: it draws such lines, from the first on; or memory for them was refused, and nothing went out.
abbrev pub WritesInArea : {T : Type 0} → RowSkin → List ℕ → Area → Trace → Result T Error → Trace → Type 0
WritesInArea skin markdown area old r new = DrawsSome (IsAreaFront skin markdown area) (λ lines. area_bytes skin None lines area 0) old r new

-- What a plain terminal shows that reads what was written, where as many lines of the text as the area has rows keep the premises: the
-- first rows of the layout in the area, every other cell as before, and the plain pen again.
pub record ShowsText (skin : RowSkin) (markdown : List ℕ) (area : Area) (old new : Trace) : Type 0 where
  pub lines : List FmtLine
  pub laid_out : IsAreaFront skin markdown area lines
  pub shown : KeepsPremises skin (area.width - 1) (take area.height (lines_in_parts laid_out.text)) → TookWith old new (AreShownIn skin None lines area 0)

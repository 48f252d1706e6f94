-- What an area shows of a layout that was drawn in it, beside a scroll bar, if there is one.
use Rattle.std.specs.Prelude.{ℕ, ◌+◌, ◌≤◌, List, take, drop, Option, Some, IfSome}
use Rattle.mad_md.specs.Lines.{LineContent}
use Rattle.mad_term.specs.Trace.{Trace, TookWith}
use Rattle.mad_measure.specs.declared.area.Area.{Area}
use Rattle.mad_draw.specs.BesideBar.{IsBarShown, columns_beside}
use Rattle.mad_draw.specs.declared.scroll_bars.ScrollBar.{ScrollBar}
use Rattle.mad_blocks.specs.FittingLayouts.{IsFittingLayout}
use Rattle.mad_layout.specs.FlaggedTexts.{AreAcross}
use Rattle.mad_layout.specs.Headline.{AreShownAcross}
use Rattle.mad_blocks.specs.Layouts.{IsLayoutAt}
use Rattle.mad_layout.specs.Premises.{KeepsPremises}
use Rattle.mad_layout.specs.Drawable.{AreDrawable}
use Rattle.mad_layout.specs.Shown.{AreShownIn, lines_shown}
use Rattle.mad_blocks.specs.TextParts.{lines_in_parts}
use Rattle.mad_rows.specs.declared.row_skin.RowSkin.{RowSkin}
use Rattle.mad_format.specs.declared.line.FmtLine.{FmtLine}
use Rattle.mad_rows.specs.RowStyles.{line_rules}

-- What a plain terminal shows that reads what was written, where each line that has a row fits the columns that the bar leaves, as a layout
-- left it, and the bar takes its column: the lines in the area from `scroll` on, the bar, every other cell as before, and the plain pen again.
abbrev pub ShowsDrawable : RowSkin → Option ScrollBar → List FmtLine → Area → ℕ → Trace → Trace → Type 0
ShowsDrawable skin bar lines area scroll old new =
    IfSome bar (IsBarShown area.width) → AreDrawable skin (columns_beside bar area.width) (lines_shown lines area scroll) → TookWith old new (AreShownIn skin bar lines area scroll)

-- What a plain terminal shows that reads what was written, where the lines are a layout of a text, at a width that isn't more than the columns
-- that the bar leaves, and as many lines of the text as the area reaches keep the premises (a line has one row at least): the lines in the area
-- from `scroll` on, the bar, every other cell as before, and the plain pen again.
abbrev pub ShowsLayout : RowSkin → Option ScrollBar → List FmtLine → Area → ℕ → Trace → Trace → Type 0
ShowsLayout skin bar lines area scroll old new =
    (source : List LineContent) (width : ℕ) → width ≤ columns_beside bar area.width → IfSome bar (IsBarShown area.width) → KeepsPremises skin width (take (scroll + area.height) (lines_in_parts source))
    → IsFittingLayout (line_rules skin) width source lines → TookWith old new (AreShownIn skin bar lines area scroll)

-- The headline of a layout: where the lines are one of a text, at a width from three columns to those that the bar leaves, and as many lines
-- of the text as the area reaches keep the premises, the text's lines have rows, and the area shows these from row `scroll` on, and the bar.
abbrev pub ShowsRowsFrom : RowSkin → Option ScrollBar → List FmtLine → Area → ℕ → Trace → Trace → Type 0
ShowsRowsFrom skin bar lines area scroll old new =
    (text : List LineContent) (width : ℕ) → 3 ≤ width → width ≤ columns_beside bar area.width → IfSome bar (IsBarShown area.width) → KeepsPremises skin width (take (scroll + area.height) (lines_in_parts text))
    → IsLayoutAt (line_rules skin) (Some width) text lines
    → (across : List (List ℕ)) × AreAcross skin width (columns_beside bar area.width) (lines_in_parts text) across × TookWith old new (AreShownAcross bar (drop scroll across) area)

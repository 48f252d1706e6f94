-- What an area shows of a text whose scroll bar has moves of its own.
use Rattle.std.specs.Prelude.{ℕ, ◌+◌, ◌≤◌, List, take, Option, IfSome}
use Rattle.mad_md.specs.Lines.{LineContent}
use Rattle.mad_term.specs.Trace.{Trace, TookWith}
use Rattle.mad_measure.specs.declared.area.Area.{Area}
use Rattle.mad_draw.specs.BarsApart.{AreShownBeside, panes_beside, panes_bytes}
use Rattle.mad_draw.specs.BesideBar.{IsBarShown, columns_beside}
use Rattle.mad_draw.specs.Panes.{Pane}
use Rattle.mad_draw.specs.declared.scroll_bars.ScrollBar.{ScrollBar}
use Rattle.mad_blocks.specs.FittingLayouts.{IsFittingLayout}
use Rattle.mad_blocks.specs.TextParts.{lines_in_parts}
use Rattle.mad_format.specs.declared.line.FmtLine.{FmtLine}
use Rattle.mad_rows.specs.RowStyles.{line_rules}
use Rattle.mad_rows.specs.declared.row_skin.RowSkin.{RowSkin}
use Rattle.mad_layout.specs.Drawable.{AreDrawable}
use Rattle.mad_layout.specs.Premises.{KeepsPremises}
use Rattle.mad_layout.specs.Shown.{lines_shown, text_row}

-- the panes of an area: the lines from `scroll` on in the columns that the bar leaves, and the bar
abbrev pub text_panes : RowSkin → Option ScrollBar → List FmtLine → Area → ℕ → List Pane
text_panes skin bar lines area scroll = panes_beside bar (text_row skin (columns_beside bar area.width) lines scroll) area

-- their bytes
abbrev pub beside_bytes : RowSkin → Option ScrollBar → List FmtLine → Area → ℕ → List ℕ
beside_bytes skin bar lines area scroll = panes_bytes (text_panes skin bar lines area scroll)

-- What a plain terminal does that reads these bytes: the same as where the bar follows each row. But the bar has bytes of its own, which show it in
-- its column whatever was read before them.
abbrev pub AreLinesBeside : RowSkin → Option ScrollBar → List FmtLine → Area → ℕ → List ℕ → Type 0
AreLinesBeside skin bar lines area scroll = AreShownBeside bar (text_row skin (columns_beside bar area.width) lines scroll) area

-- what it shows where each line that has a row fits the columns that the bar leaves, as a layout left it, and the bar takes its column
abbrev pub ShowsDrawableBeside : RowSkin → Option ScrollBar → List FmtLine → Area → ℕ → Trace → Trace → Type 0
ShowsDrawableBeside skin bar lines area scroll old new =
    IfSome bar (IsBarShown area.width) → AreDrawable skin (columns_beside bar area.width) (lines_shown lines area scroll) → TookWith old new (AreLinesBeside skin bar lines area scroll)

-- what it shows where the lines are a layout of a text, at no more than those columns, and as many lines of the text as the area reaches
-- keep the premises
abbrev pub ShowsLayoutBeside : RowSkin → Option ScrollBar → List FmtLine → Area → ℕ → Trace → Trace → Type 0
ShowsLayoutBeside skin bar lines area scroll old new =
    (source : List LineContent) (width : ℕ) → width ≤ columns_beside bar area.width → IfSome bar (IsBarShown area.width)
    → KeepsPremises skin width (take (scroll + area.height) (lines_in_parts source)) → IsFittingLayout (line_rules skin) width source lines → TookWith old new (AreLinesBeside skin bar lines area scroll)

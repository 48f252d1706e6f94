-- What a view of a text is of.
use Rattle.std.specs.Prelude.{List, Option}
use Rattle.mad_measure.specs.declared.area.Area.{Area}
use Rattle.mad_draw.specs.declared.scroll_bars.ScrollBar.{ScrollBar}
use Rattle.mad_format.specs.declared.line.FmtLine.{FmtLine}
use Rattle.mad_layout.specs.RowSkins.{row_skin}
use Rattle.mad_layout.specs.Shown.{text_bar}
use Rattle.mad_rows.specs.declared.row_skin.RowSkin.{RowSkin}
use Rattle.mad_view.specs.declared.text_view.TextView.{TextView}

-- the area of the screen that it is in
abbrev pub view_area : TextView → Area
view_area view = view.area.now

-- its text's lines, as they were laid out
abbrev pub view_lines : TextView → List FmtLine
view_lines view = view.text.now.lines.items

-- what rows show of its text's skin
abbrev pub view_skin : TextView → RowSkin
view_skin view = row_skin view.text.now.skin.now

-- its scroll bar, if it shows one
abbrev pub view_bar : TextView → Option ScrollBar
view_bar view = text_bar view.show_scrollbar view.text.now view.area.now view.scroll

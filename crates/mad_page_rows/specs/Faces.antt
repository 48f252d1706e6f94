-- What is written of a page's rows, piece by piece.
use Rattle.std.specs.Prelude.{ℕ, zero, suc, ◌+◌, ◌-◌, nat_lt, is_some, ◌&&◌, ◌||◌, ◌==◌, Bool, true, false, List, [], ◌∷◌, ◌++◌, take, drop, length, Option, Some, None, if◌then◌else◌}
use Rattle.std.specs.List.{flat_map, last_or}
use Rattle.std.specs.Option.{option_and_then}
use Rattle.mad_format.specs.declared.line.FmtLine.{FmtLine}
use Rattle.mad_format.specs.declared.line.FmtLine.TheVariants.{Normal}
use Rattle.mad_mark_runs.specs.declared.mark_runs.MarkRun.{MarkRun}
use Rattle.mad_marked_rows.specs.MarkedRows.{marked_line}
use Rattle.mad_marked_rows.specs.Paints.{paint_by}
use Rattle.mad_marks.specs.LineMarks.{has_mark}
use Rattle.mad_style.specs.CompoundStyles.{overwritten}
use Rattle.mad_style.specs.StyledChars.{char_style, char_alone, styled_char}
use Rattle.mad_style.specs.declared.compound_styles.CompoundStyle.{CompoundStyle}
use Rattle.mad_style.specs.declared.styled_chars.StyledChar.{StyledChar}
use Rattle.mad_draw.specs.Pieces.{RowPiece, pieces_bytes, char_piece, char_repeat, spaces}
use Rattle.mad_rows.specs.Rows.{number_piece, line_pieces}
use Rattle.mad_rows.specs.RowStyles.{header_style, ordered_item_style, tone_styles}
use Rattle.mad_rows.specs.declared.page_styles.PageStyles.{PageStyles}
use Rattle.mad_rows.specs.declared.page_styles.TitleStyles.{TitleStyles}
use Rattle.mad_rows.specs.declared.row_skin.RowSkin.{RowSkin}
use Rattle.mad_sections.specs.Gutters.{gutter_columns, columns_of}
use Rattle.mad_sections.specs.declared.gutters.Gutter.{Gutter}
use Rattle.mad_sections.specs.declared.gutters.Gutter.TheVariants.{Bar, AlertBar, Bullet, Number, Task, Code, Signs, Below}
use Rattle.mad_sections.specs.declared.gutters.Alert.{Alert}
use Rattle.mad_sections.specs.declared.gutters.Alert.TheVariants.{Note, Tip, Important, Warning, Caution}
use Rattle.mad_pages.specs.Fronts.{FrontContent, front_of}
use Rattle.mad_pages.specs.PageRows.{RowContent, row_content}
use Rattle.mad_pages.specs.declared.page_rows.PageRow.{PageRow}

-- the boxes of tasks are of ASCII characters where the skin's bullet is one
abbrev pub has_ascii_boxes : RowSkin → Bool
has_ascii_boxes skin = nat_lt (char_alone skin.bullet) 128

-- the box of a task that is done, or of an open one
abbrev pub task_box : PageStyles → Bool → StyledChar
task_box page done = if done then page.done else page.task

-- the box of a task in ASCII characters, in bytes: [ ], [x]
abbrev pub ascii_box : Bool → List ℕ
ascii_box false = 91 ∷ 32 ∷ 93 ∷ []
ascii_box true = 91 ∷ 120 ∷ 93 ∷ []

-- the box of a task, in its style: its character, or three ASCII ones
abbrev pub box_piece : RowSkin → Bool → RowPiece
box_piece skin done = if has_ascii_boxes skin then record { style = (char_style (task_box skin.page done)).object_style; text = ascii_box done } else char_piece (task_box skin.page done)

-- the bar of an alert
abbrev pub alert_bar : PageStyles → Alert → StyledChar
alert_bar page Note = page.note
alert_bar page Tip = page.tip
alert_bar page Important = page.important
alert_bar page Warning = page.warning
alert_bar page Caution = page.caution

-- the sign of a heading of this level, which is counted from 0, in its style: #
abbrev pub heading_sign : RowSkin → ℕ → StyledChar
heading_sign skin level = styled_char (header_style skin.paragraph skin.headers (suc level)).compound_style 35

-- what the rule below a heading of this level is drawn with, which is counted from 0
abbrev pub below_char : PageStyles → ℕ → StyledChar
below_char page zero = page.below_first
below_char page (suc level) = page.below_others

-- blanks in the paragraph's style
abbrev pub blanks : RowSkin → ℕ → List RowPiece
blanks skin n = spaces skin.paragraph.compound_style n

-- code is drawn in boxes: it has a background of its own
abbrev pub has_boxes : RowSkin → Bool
has_boxes skin = is_some skin.code_block.compound_style.object_style.background_color

-- blanks in the style of code
abbrev pub code_blanks : RowSkin → ℕ → List RowPiece
code_blanks skin n = spaces skin.code_block.compound_style n

-- in front of each row of code: the side of its box, or where there are no boxes two blanks
abbrev pub code_face : RowSkin → List RowPiece
code_face skin = if has_boxes skin then code_blanks skin 1 else blanks skin 2

-- what a gutter shows in front of its first row
abbrev pub first_face : RowSkin → Gutter → List RowPiece
first_face skin Bar = char_piece skin.quote_mark ∷ blanks skin 1
first_face skin (AlertBar alert) = char_piece (alert_bar skin.page alert) ∷ blanks skin 1
first_face skin Bullet = char_piece skin.bullet ∷ blanks skin 1
first_face skin (Number n) = number_piece (ordered_item_style skin 0).index_style n ∷ char_piece (ordered_item_style skin 0).index_suffix ∷ blanks skin 1
first_face skin (Task done) = box_piece skin done ∷ blanks skin 1
first_face skin Code = code_face skin
first_face skin (Signs level) = char_repeat (heading_sign skin level) (level + 1) ++ blanks skin 1
first_face skin (Below level) = []

-- and in front of all others: a bar is there again, and the side of a box, all else is blank
abbrev pub other_face : RowSkin → Gutter → List RowPiece
other_face skin Bar = char_piece skin.quote_mark ∷ blanks skin 1
other_face skin (AlertBar alert) = char_piece (alert_bar skin.page alert) ∷ blanks skin 1
other_face skin Code = code_face skin
other_face skin g = blanks skin (gutter_columns (has_ascii_boxes skin) g)

-- one of both
abbrev pub face : RowSkin → Bool → Gutter → List RowPiece
face skin first g = if first then first_face skin g else other_face skin g

-- the faces of gutters in a row: the last so many have their first one
abbrev pub faces : RowSkin → List Gutter → ℕ → List RowPiece
faces skin gs fresh = flat_map (face skin false) (take (length gs - fresh) gs) ++ flat_map (face skin true) (drop (length gs - fresh) gs)

-- the columns that gutters leave of an outer width
abbrev pub columns_behind : Bool → Option ℕ → List Gutter → Option ℕ
columns_behind ascii None gs = None
columns_behind ascii (Some width) gs = Some (width - columns_of ascii gs)

-- the gutter is that of code
abbrev pub is_code : Gutter → Bool
is_code Code = true
is_code g = false

-- the count of the gutters that are
abbrev pub codes : List Gutter → ℕ
codes [] = 0
codes (g ∷ gs) = (if is_code g then 1 else 0) + codes gs

-- the columns behind a row: one for each box
abbrev pub back_columns : RowSkin → List Gutter → ℕ
back_columns skin gs = if has_boxes skin then codes gs else 0

-- what gutters show behind a row: the other sides of boxes
abbrev pub backs : RowSkin → List Gutter → List RowPiece
backs skin gs = code_blanks skin (back_columns skin gs)

-- the last gutter is that of code
abbrev pub ends_in_code : List Gutter → Bool
ends_in_code [] = false
ends_in_code (g ∷ []) = is_code g
ends_in_code (g ∷ h ∷ gs) = ends_in_code (h ∷ gs)

-- rows behind these gutters are in a box
abbrev pub in_box : RowSkin → List Gutter → Bool
in_box skin gs = has_boxes skin && ends_in_code gs

-- the level of the heading that a gutter is below, if it is below one
abbrev pub level_of : Gutter → Option ℕ
level_of (Below level) = Some level
level_of g = None

-- the level of the heading that a row is below, if its last gutter says so
abbrev pub level_above : List Gutter → Option ℕ
level_above gs = option_and_then level_of (last_or None gs)

-- a skin whose rules are drawn as those below a heading of this level, if there is one
abbrev pub ruled : RowSkin → Option ℕ → RowSkin
ruled skin None = skin
ruled skin (Some level) = record skin { horizontal_rule = below_char skin.page level }

-- what the title of an alert adds to bold text
abbrev pub title_style : TitleStyles → Alert → CompoundStyle
title_style titles Note = titles.note
title_style titles Tip = titles.tip
title_style titles Important = titles.important
title_style titles Warning = titles.warning
title_style titles Caution = titles.caution

-- the alert that a gutter is the bar of, if it is one's
abbrev pub alert_of : Gutter → Option Alert
alert_of (AlertBar alert) = Some alert
alert_of g = None

-- the alert that the last gutter is the bar of, if it is one's
abbrev pub alert_barred : List Gutter → Option Alert
alert_barred gs = option_and_then alert_of (last_or None gs)

-- the alert whose title a row is: the first row behind its bar, if the bar is the last gutter
abbrev pub alert_titled : FrontContent → Option Alert
alert_titled front = if front.fresh == 0 then None else alert_barred front.gutters

-- what bold text adds, and over it what it adds in the title of this alert
abbrev pub titled : RowSkin → Option Alert → CompoundStyle
titled skin None = skin.bold
titled skin (Some alert) = overwritten skin.bold (title_style skin.titles alert)

-- what bold text adds in a row: over it comes what the heads of tables add, or the title of an alert
abbrev pub bold_behind : RowSkin → FrontContent → CompoundStyle
bold_behind skin front = if front.head then overwritten skin.bold skin.head else titled skin (alert_titled front)

-- a skin in which bold text adds this
abbrev pub emboldened : RowSkin → CompoundStyle → RowSkin
emboldened skin bold = record skin { bold = bold }

-- the skin of a row's line: in a box what is beside its text looks as code, and below a heading a rule as those there; bold text of titles and heads has
-- their styles
abbrev pub line_skin : RowSkin → FrontContent → RowSkin
line_skin skin front =
    emboldened (ruled (if in_box skin front.gutters then record skin { paragraph = skin.code_block } else skin) (level_above front.gutters)) (bold_behind skin front)

-- A line with its marks. Where marks are left, and there are tones, a composite's text is cut where its mark changes, and each part is in the style that its
-- tone makes of the text's. All else is as without marks. So many counted characters stand before the line.
abbrev pub toned_pieces : List MarkRun → List CompoundStyle → ℕ → RowSkin → Option ℕ → Bool → FmtLine → List RowPiece
toned_pieces (run ∷ runs) (tone ∷ tones) n skin outer filled (Normal l) = marked_line (paint_by (tone ∷ tones)) has_mark (run ∷ runs) skin outer filled (n ∷ []) (Normal l)
toned_pieces runs tones n skin outer filled line = line_pieces skin outer filled line

-- the pieces of a row's line, in the columns that its gutters leave; in a box it fills them
abbrev pub behind_pieces : RowSkin → Option ℕ → Bool → RowContent → List RowPiece
behind_pieces skin outer filled row =
    toned_pieces row.marks (tone_styles skin) row.number (line_skin skin (front_of row)) (columns_behind (has_ascii_boxes skin) outer row.gutters) (filled || in_box skin row.gutters) row.line

-- the pieces of a row at an outer width: the faces of its gutters, its line in the columns that they leave, and the other sides of boxes
abbrev pub page_row_pieces : RowSkin → Option ℕ → Bool → RowContent → List RowPiece
page_row_pieces skin outer filled row = faces skin row.gutters row.fresh ++ (behind_pieces skin outer filled row ++ backs skin row.gutters)

-- a row at an outer width, and a newline; what is right of it isn't filled up
abbrev pub page_row_bytes : RowSkin → Option ℕ → RowContent → List ℕ
page_row_bytes skin outer row = pieces_bytes (page_row_pieces skin outer false row) ++ 10 ∷ []

-- the rows of a page, one after another
abbrev pub page_bytes : RowSkin → Option ℕ → List PageRow → List ℕ
page_bytes skin outer rows = flat_map (λ (row : PageRow). page_row_bytes skin outer (row_content row)) rows

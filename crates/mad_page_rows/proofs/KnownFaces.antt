-- The numbers of the colors of a page's rows are bytes.
use Rattle.std.proofs.Common.{ℕ, suc, ◌+◌, ◌-◌, Bool, true, false, List, [], ◌∷◌, length, take, drop, Some, if◌then◌else◌}
use Rattle.std.specs.List.{flat_map}
use Rattle.mad_term.specs.Styles.{IsStyle}
use Rattle.mad_style.specs.StyledChars.{char_style}
use Rattle.mad_style.specs.declared.kinds.CompositeKind.TheVariants.{Header}
use Rattle.mad_draw.specs.Pieces.{RowPiece, AreKnown, char_piece, char_repeat}
use Rattle.mad_draw.proofs.PieceLemmas.{char_repeat_known, known_both, spaces_known}
use Rattle.mad_rows.specs.RowStyles.{AreKnownSigns, AreKnownStyles}
use Rattle.mad_rows.specs.declared.page_styles.PageStyles.{PageStyles}
use Rattle.mad_rows.specs.declared.row_skin.RowSkin.{RowSkin}
use Rattle.mad_rows.proofs.KnownLemmas.{item_known, line_known}
use Rattle.mad_sections.specs.declared.gutters.Gutter.{Gutter}
use Rattle.mad_sections.specs.declared.gutters.Gutter.TheVariants.{Bar, AlertBar, Bullet, Number, Task, Code, Signs, Below}
use Rattle.mad_sections.specs.declared.gutters.Alert.{Alert}
use Rattle.mad_sections.specs.declared.gutters.Alert.TheVariants.{Note, Tip, Important, Warning, Caution}
use Rattle.mad_sections.proofs.Choices.{by_bool}
use Rattle.mad_pages.specs.PageRows.{RowContent}
use Rattle.mad_page_rows.specs.Faces.{has_ascii_boxes, has_boxes, task_box, ascii_box, box_piece, alert_bar, heading_sign, blanks, code_blanks, code_face, first_face, other_face, face, faces, back_columns, backs, behind_pieces, page_row_pieces}

blanks_known : (skin : RowSkin) (n : ℕ) → AreKnownStyles skin → AreKnown (blanks skin n)
blanks_known skin n h = spaces_known skin.paragraph.compound_style n h.parts.paragraph

sides_known : (skin : RowSkin) (n : ℕ) → AreKnownStyles skin → AreKnown (code_blanks skin n)
sides_known skin n h = spaces_known skin.code_block.compound_style n h.parts.code_block

code_known : (skin : RowSkin) → AreKnownStyles skin → AreKnown (code_face skin)
code_known skin h = by_bool (λ t. AreKnown (if t then code_blanks skin 1 else blanks skin 2)) (has_boxes skin) (λ e. sides_known skin 1 h) (λ e. blanks_known skin 2 h)

alert_known : (page : PageStyles) (alert : Alert) → AreKnownSigns page → IsStyle (char_style (alert_bar page alert)).object_style
alert_known page Note h = h.note
alert_known page Tip h = h.tip
alert_known page Important h = h.important
alert_known page Warning h = h.warning
alert_known page Caution h = h.caution

task_known : (page : PageStyles) (done : Bool) → AreKnownSigns page → IsStyle (char_style (task_box page done)).object_style
task_known page true h = h.done
task_known page false h = h.task

box_known : (skin : RowSkin) (done : Bool) → AreKnownStyles skin → IsStyle (box_piece skin done).style
box_known skin done h =
    let known : IsStyle (char_style (task_box skin.page done)).object_style = task_known skin.page done h.parts.page in
    let ascii : RowPiece = record { style = (char_style (task_box skin.page done)).object_style; text = ascii_box done } in
    by_bool (λ t. IsStyle (if t then ascii else char_piece (task_box skin.page done)).style) (has_ascii_boxes skin) (λ e. known) (λ e. known)

first_known : (skin : RowSkin) (g : Gutter) → AreKnownStyles skin → AreKnown (first_face skin g)
first_known skin Bar h = (h.parts.quote_mark, blanks_known skin 1 h)
first_known skin (AlertBar alert) h = (alert_known skin.page alert h.parts.page, blanks_known skin 1 h)
first_known skin Bullet h = (h.parts.bullet, blanks_known skin 1 h)
first_known skin (Number n) h = let item = item_known skin 0 h in (item.0, (item.1, blanks_known skin 1 h))
first_known skin (Task done) h = (box_known skin done h, blanks_known skin 1 h)
first_known skin Code h = code_known skin h
first_known skin (Signs level) h =
    known_both (char_repeat (heading_sign skin level) (level + 1)) (blanks skin 1) (char_repeat_known (heading_sign skin level) (level + 1) (line_known skin (Header (suc level)) h)) (blanks_known skin 1 h)
first_known skin (Below level) h = tt

other_known : (skin : RowSkin) (g : Gutter) → AreKnownStyles skin → AreKnown (other_face skin g)
other_known skin Bar h = (h.parts.quote_mark, blanks_known skin 1 h)
other_known skin (AlertBar alert) h = (alert_known skin.page alert h.parts.page, blanks_known skin 1 h)
other_known skin Bullet h = blanks_known skin 2 h
other_known skin (Number n) h = blanks_known skin _ h
other_known skin (Task done) h = blanks_known skin _ h
other_known skin Code h = code_known skin h
other_known skin (Signs level) h = blanks_known skin _ h
other_known skin (Below level) h = blanks_known skin 0 h

face_known : (skin : RowSkin) (first : Bool) (g : Gutter) → AreKnownStyles skin → AreKnown (face skin first g)
face_known skin true g h = first_known skin g h
face_known skin false g h = other_known skin g h

all_known : (skin : RowSkin) (first : Bool) (gs : List Gutter) → AreKnownStyles skin → AreKnown (flat_map (face skin first) gs)
all_known skin first [] h = tt
all_known skin first (g ∷ gs) h = known_both (face skin first g) (flat_map (face skin first) gs) (face_known skin first g h) (all_known skin first gs h)

-- the numbers of a row's colors are bytes, where those of its faces and its line are
pub row_known : (skin : RowSkin) (width : ℕ) (row : RowContent) → AreKnownStyles skin → AreKnown (behind_pieces skin (Some width) true row) → AreKnown (page_row_pieces skin (Some width) true row)
row_known skin width row h line =
    let k : ℕ = length row.gutters - row.fresh in
    known_both (faces skin row.gutters row.fresh) _ (known_both (flat_map (face skin false) (take k row.gutters)) (flat_map (face skin true) (drop k row.gutters)) (all_known skin false (take k row.gutters) h) (all_known skin true (drop k row.gutters) h))
    (known_both (behind_pieces skin (Some width) true row) (backs skin row.gutters) line (sides_known skin (back_columns skin row.gutters) h))

-- Rows whose lines look otherwise than behind other gutters.
use Rattle.std.specs.Prelude.{◌||◌, ◌==◌, Bool, true, false, not, List, [], ◌∷◌, length, is_some}
use Rattle.mad_pages.specs.Fronts.{front_of}
use Rattle.mad_pages.specs.PageRows.{RowContent}
use Rattle.mad_page_rows.specs.Faces.{alert_titled}
use Rattle.mad_sections.specs.declared.gutters.Gutter.{Gutter}
use Rattle.mad_sections.specs.declared.gutters.Gutter.TheVariants.{Code, Below}

-- a gutter that changes how the line behind it looks: the side of a box, or what is in front of the rule below a heading
abbrev pub changes_look : Gutter → Bool
changes_look Code = true
changes_look (Below level) = true
changes_look _ = false

-- one of these gutters does
abbrev pub change_look : List Gutter → Bool
change_look [] = false
change_look (g ∷ gs) = changes_look g || change_look gs

-- the line of a row may look otherwise than elsewhere: behind such a gutter, with marks, as the head of a table, or as the title of an alert
abbrev pub looks_otherwise : RowContent → Bool
looks_otherwise row = change_look row.gutters || (not (length row.marks == 0) || (row.head || is_some (alert_titled (front_of row))))

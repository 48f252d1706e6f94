-- An example: a text of three words, and what doesn't show it.
use Rattle.std.specs.Prelude.{◌≡◌, ℕ, List, [], ◌∷◌, Some}
use Rattle.mad_term.specs.Trace.{Trace}
use Rattle.mad_screen.specs.Glyph.{Glyph}
use Rattle.mad_screen.specs.Grid.{plain_pen}
use Rattle.mad_style.specs.CompoundStyles.{unstyled}
use Rattle.mad_measure.specs.declared.area.Area.{Area}
use Rattle.mad_draw.specs.DrawnRows.{rows_bytes}
use Rattle.mad_draw.specs.Pieces.{spaces}
use Rattle.mad_layout.specs.InArea.{ShowsText}
use Rattle.mad_layout.specs.RowSkins.{row_skin}
use Rattle.mad_layout.specs.Skins.{no_style_skin}
use Rattle.mad_rows.specs.declared.row_skin.RowSkin.{RowSkin}

-- `aaa bb cc`
abbrev pub words : List ℕ
words = 97 ∷ 97 ∷ 97 ∷ 32 ∷ 98 ∷ 98 ∷ 32 ∷ 99 ∷ 99 ∷ []

-- what rows show of the skin without style
abbrev pub word_skin : RowSkin
word_skin = row_skin no_style_skin

-- an area of twelve columns and two rows, away from the screen's corner
abbrev pub word_area : Area
word_area = record { left = 2; top = 1; width = 12; height = 2 }

-- a `z`, which is in the screen's corner before
abbrev pub corner : Glyph
corner = record { chars = 122 ∷ []; pen = plain_pen }

-- Who fills the area with spaces has not shown the text.
abbrev pub SpacesAreNoText : Type 0
SpacesAreNoText = (old new : Trace) → old.bytes ≡ Some [] → new.bytes ≡ Some (rows_bytes (λ y. spaces unstyled 12) word_area) → ¬ (ShowsText word_skin words word_area old new)

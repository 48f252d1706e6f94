-- The laws of rows with links in areas.
use Rattle.std.specs.Prelude.{◌≡◌, ℕ, ◌<◌, Bool, List, [], ◌∷◌, ◌++◌, map, Option, Some}
use Rattle.std.specs.Str.{IsUtf8}
use Rattle.mad_term.specs.declared.styles.ContentStyle.{ContentStyle}
use Rattle.mad_screen.specs.Grid.{Grid, IsGrid, plain_pen}
use Rattle.mad_screen.specs.Terminal.{after_bytes}
use Rattle.mad_screen.specs.Drawing.{ShowsRows}
use Rattle.mad_draw.specs.PennedCells.{penned_cells}
use Rattle.mad_measure.specs.declared.area.Area.{Area}
use Rattle.mad_measure.specs.Areas.{IsWithinLimits}
use Rattle.mad_draw.specs.DrawnRows.{rows_bytes, FillArea, IsOnScreen}
use Rattle.mad_draw.specs.Pieces.{RowPiece, AreKnown, penned_chars, pieces_bytes}
use Rattle.mad_format.specs.declared.composite.FmtComposite.{FmtComposite}
use Rattle.mad_rows.specs.Rows.{composite_pieces}
use Rattle.mad_rows.specs.declared.row_skin.RowSkin.{RowSkin}
use Rattle.mad_links.specs.LinkRows.{LinkedPiece, AreAddresses, linked_bytes}
use Rattle.mad_links.specs.SkippingTerminal.{after_skipping}
use Rattle.mad_links.specs.LinkedAreas.{AreLinkedRowsShown, in_no_link, linked_rows_bytes, without_links}
use Rattle.mad_links.specs.LinkedLines.{composite_links, SaysCompounds, ShowsCompounds}

-- what is asked of an area's rows: each fills the area's width without its links, and the numbers of its colors are bytes
pub record AreLinkedRows (row : ℕ → List LinkedPiece) (addresses : List (Option (List ℕ))) (area : Area) : Type 0 where
  pub within : IsWithinLimits area
  pub fill : FillArea (λ y. without_links (row y)) area
  pub known : (y : ℕ) → y < area.height → AreKnown (without_links (row y))
  pub writable : AreAddresses addresses

-- an area's rows lead where their links do, and no row ends with one open
abbrev pub LinksInAreas : Type 0
LinksInAreas = (row : ℕ → List LinkedPiece) (addresses : List (Option (List ℕ))) (area : Area) → AreLinkedRows row addresses area → AreLinkedRowsShown row addresses area (linked_rows_bytes row addresses area)

-- what a terminal that passes over links makes of these bytes: what the plain one makes of the rows without links
abbrev pub IsShownWithoutLinks : (ℕ → List LinkedPiece) → Area → List ℕ → Type 0
IsShownWithoutLinks row area bytes = (g : Grid) → after_skipping g bytes ≡ after_bytes g (rows_bytes (λ y. without_links (row y)) area)

-- A terminal that passes over links ends as the plain one does that reads the rows without links: so all that is proved of these holds of it.
abbrev pub AreasAreTheSame : Type 0
AreasAreTheSame =
    (row : ℕ → List LinkedPiece) (addresses : List (Option (List ℕ))) (area : Area) → AreLinkedRows row addresses area
    → (g : Grid) → after_skipping g (linked_rows_bytes row addresses area) ≡ after_bytes g (rows_bytes (λ y. without_links (row y)) area)

-- pieces that are in no link have the bytes that they had
abbrev pub NoLinkNoByte : Type 0
NoLinkNoByte = (addresses : List (Option (List ℕ))) (ps : List RowPiece) → linked_bytes addresses (map in_no_link ps) ≡ pieces_bytes ps

-- a piece that is cut shows the same characters, each with the same pen
abbrev pub CutsShowTheSame : Type 0
CutsShowTheSame =
    (style : ContentStyle) (a b : List ℕ) → IsUtf8 a
    → penned_chars (record { style = style; text = a } ∷ record { style = style; text = b } ∷ []) ≡ penned_chars (record { style = style; text = a ++ b } ∷ [])

-- a composite with links says what it says without
abbrev pub CompositesSayTheSame : Type 0
CompositesSayTheSame =
    (skin : RowSkin) (outer : Option ℕ) (margins : ℕ × ℕ) (filled : Bool) (l : FmtComposite) (said : List LinkedPiece) → SaysCompounds skin l said
    → without_links (composite_links skin outer margins filled l said) ≡ composite_pieces skin outer margins filled l

-- a composite with links shows the characters and pens that it shows without, however its compounds are cut
abbrev pub CompositesShowTheSame : Type 0
CompositesShowTheSame =
    (skin : RowSkin) (outer : Option ℕ) (margins : ℕ × ℕ) (filled : Bool) (l : FmtComposite) (said : List LinkedPiece) → ShowsCompounds skin l said
    → penned_chars (without_links (composite_links skin outer margins filled l said)) ≡ penned_chars (composite_pieces skin outer margins filled l)

-- What an area shows of rows with links, on a terminal that passes over links, is what it shows of any rows of the same characters and pens: so of today's rows,
-- of which these are cut at their links.
abbrev pub AreasShowTheSame : Type 0
AreasShowTheSame =
    (row : ℕ → List LinkedPiece) (addresses : List (Option (List ℕ))) (area : Area) (uncut : ℕ → List RowPiece) → AreLinkedRows row addresses area
    → ((y : ℕ) → penned_chars (without_links (row y)) ≡ penned_chars (uncut y)) → (g : Grid) → IsOnScreen area g
    → (new : Grid) × (after_skipping g (linked_rows_bytes row addresses area) ≡ Some new) × IsGrid new × (new.pen ≡ plain_pen)
    × ShowsRows area.left area.top area.width area.height (λ y. penned_cells (penned_chars (uncut y))) g new

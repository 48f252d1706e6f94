-- The laws of a page's rows with links.
use Rattle.std.specs.Prelude.{◌≡◌, ℕ, Bool, List, [], Option}
use Rattle.mad_screen.specs.Grid.{Grid}
use Rattle.mad_screen.specs.Terminal.{after_bytes}
use Rattle.mad_draw.specs.Pieces.{AreKnown, AreShownPieces, penned_chars, pieces_bytes}
use Rattle.mad_rows.specs.declared.row_skin.RowSkin.{RowSkin}
use Rattle.mad_links.specs.LinkLaws.{IsWoven}
use Rattle.mad_links.specs.LinkRows.{AreAddresses, linked_bytes, row_cells}
use Rattle.mad_links.specs.LinkTerminal.{LinkPaints}
use Rattle.mad_links.specs.LinkedAreas.{without_links}
use Rattle.mad_links.specs.SkippingTerminal.{after_skipping}
use Rattle.mad_marked_rows.specs.RowLaws.{AreTexts}
use Rattle.mad_pages.specs.PageRows.{RowContent}
use Rattle.mad_page_rows.specs.Faces.{page_row_pieces}
use Rattle.markdown_linked_pages.specs.LinkedPageRows.{linked_row_pieces}
use Rattle.mad_page_rows.specs.ToneLaws.{without_marks}

-- What is asked of a row: without its marks it shows cells of its own, and the numbers of its colors are bytes; each address can be written.
pub record IsLinkableRow (skin : RowSkin) (outer : Option ℕ) (filled : Bool) (row : RowContent) (addresses : List (Option (List ℕ))) : Type 0 where
  pub shown : AreShownPieces (page_row_pieces skin outer filled (without_marks row))
  pub known : AreKnown (page_row_pieces skin outer filled (without_marks row))
  pub writable : AreAddresses addresses

-- A row with links shows the characters of the row without marks, each with the same pen: links change neither. Its texts are texts.
abbrev pub LinksChangeNothing : Type 0
LinksChangeNothing =
    (skin : RowSkin) (outer : Option ℕ) (filled : Bool) (row : RowContent) → AreTexts row.line
    → penned_chars (without_links (linked_row_pieces skin outer filled row)) ≡ penned_chars (page_row_pieces skin outer filled (without_marks row))

-- What is written of it is what is written of these pieces without their links, with commands of links between them.
abbrev pub RowsAreWoven : Type 0
RowsAreWoven =
    (skin : RowSkin) (outer : Option ℕ) (filled : Bool) (row : RowContent) (addresses : List (Option (List ℕ))) → IsLinkableRow skin outer filled row addresses
    → IsWoven (linked_bytes addresses (linked_row_pieces skin outer filled row)) (pieces_bytes (without_links (linked_row_pieces skin outer filled row)))

-- So a terminal that passes over links ends as the plain one that reads these pieces without their links.
abbrev pub RowsAreTheSame : Type 0
RowsAreTheSame =
    (skin : RowSkin) (outer : Option ℕ) (filled : Bool) (row : RowContent) (addresses : List (Option (List ℕ))) → IsLinkableRow skin outer filled row addresses
    → (g : Grid) → after_skipping g (linked_bytes addresses (linked_row_pieces skin outer filled row)) ≡ after_bytes g (pieces_bytes (without_links (linked_row_pieces skin outer filled row)))

-- On a terminal with links the row writes its cells, each in the link of its part, and leaves none open.
abbrev pub LinksAreInTheirCells : Type 0
LinksAreInTheirCells =
    (skin : RowSkin) (outer : Option ℕ) (filled : Bool) (row : RowContent) (addresses : List (Option (List ℕ))) → IsLinkableRow skin outer filled row addresses
    → LinkPaints (linked_bytes addresses (linked_row_pieces skin outer filled row)) (row_cells addresses (linked_row_pieces skin outer filled row))

-- Without an address the bytes are those of these pieces without their links.
abbrev pub NoAddressNoByte : Type 0
NoAddressNoByte =
    (skin : RowSkin) (outer : Option ℕ) (filled : Bool) (row : RowContent) → linked_bytes [] (linked_row_pieces skin outer filled row) ≡ pieces_bytes (without_links (linked_row_pieces skin outer filled row))

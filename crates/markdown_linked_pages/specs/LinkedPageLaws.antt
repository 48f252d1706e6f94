-- The laws of pages with links.
use Rattle.std.specs.Prelude.{◌≡◌, ◌↔◌, ℕ, true, false, List, [], ◌∷◌, ◌++◌, map, Option, if◌then◌else◌}
use Rattle.std.specs.List.{AllByRecursion, list_all}
use Rattle.mad_live.specs.Papers.{Paper, Reads}
use Rattle.mad_rows.specs.declared.row_skin.RowSkin.{RowSkin}
use Rattle.mad_links.specs.LinkPapers.{ReadsSkipping}
use Rattle.mad_links.specs.LinkRows.{LinkedPiece, AreAddresses, AreLinkedPieces, linked_bytes, linked_text_bytes, row_cells, unlinked_bytes, unlinked_text_bytes}
use Rattle.mad_links.specs.LinkTerminal.{LinkPaints}
use Rattle.mad_links.specs.LinkedAreas.{in_no_link}
use Rattle.mad_pages.specs.PageRows.{RowContent}
use Rattle.mad_page_rows.specs.Faces.{page_row_pieces}
use Rattle.markdown_layout.specs.RowEnds.{is_end}
use Rattle.markdown_linked_pages.specs.LinkedPageRows.{lead, linked_row_pieces}
use Rattle.markdown_linked_pages.specs.LinkedPages.{ended_pieces, linked_rows_bytes}

-- what is written of a row: pieces less blanks at their end, each in its link; no link is open before its newline
pub record IsWritten (addresses : List (Option (List ℕ))) (pieces : List LinkedPiece) (written : List LinkedPiece) : Type 0 where
  pub lost : List ℕ
  pub text : unlinked_bytes pieces ≡ unlinked_bytes written ++ lost
  pub blank : list_all is_end lost ≡ true
  pub bytes : ended_pieces addresses pieces ≡ linked_bytes addresses written ++ 10 ∷ []

-- So it is with pieces that show cells of their own, and what is written of them does so too.
abbrev pub RowsAreWritten : Type 0
RowsAreWritten =
    (addresses : List (Option (List ℕ))) (pieces : List LinkedPiece) → AreLinkedPieces pieces
    → (written : List LinkedPiece) × IsWritten addresses pieces written × AreLinkedPieces written

-- the pieces of a row of a page: with its links, where its marks are those of links; in none else
abbrev pub row_links : RowSkin → Option ℕ → RowContent → List LinkedPiece
row_links skin width row = if lead row.marks then linked_row_pieces skin width false row else map in_no_link (page_row_pieces skin width false row)

-- rows of a page, each as it is written
abbrev pub AreWritten : List (Option (List ℕ)) → RowSkin → Option ℕ → List RowContent → List (List LinkedPiece) → Type 0
AreWritten addresses skin width [] [] = Unit {0}
AreWritten addresses skin width (row ∷ rows) (written ∷ others) = IsWritten addresses (row_links skin width row) written × AreWritten addresses skin width rows others
AreWritten addresses skin width _ _ = ⊥

-- What is written of a page with links, row by row. A terminal that scrolls and passes over links ends as the one does that reads these rows without
-- links. On a terminal with links each row writes its cells, each in the link of its piece, and leaves none open.
pub record IsPageWritten (addresses : List (Option (List ℕ))) (skin : RowSkin) (width : Option ℕ) (rows : List RowContent) : Type 0 where
  pub written : List (List LinkedPiece)
  pub each : AreWritten addresses skin width rows written
  pub bytes : linked_rows_bytes addresses skin width rows ≡ linked_text_bytes addresses written
  pub same : (p q : Paper) → ReadsSkipping p (linked_rows_bytes addresses skin width rows) q ↔ Reads p (unlinked_text_bytes written) q
  pub links : AllByRecursion (λ ps. LinkPaints (linked_bytes addresses ps) (row_cells addresses ps)) written

-- THE LAW: so each page is written, where its rows show cells of their own and its addresses can be written
abbrev pub PagesAreWritten : Type 0
PagesAreWritten =
    (addresses : List (Option (List ℕ))) (skin : RowSkin) (width : Option ℕ) (rows : List RowContent) → AreAddresses addresses
    → AllByRecursion (λ row. AreLinkedPieces (row_links skin width row)) rows → IsPageWritten addresses skin width rows

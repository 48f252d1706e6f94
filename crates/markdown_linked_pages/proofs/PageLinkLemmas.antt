-- Pages with links.
use Rattle.std.proofs.Common.{◌≡◌, ℕ, Bool, true, false, cond, List, [], ◌∷◌, ◌++◌, map, Option, None, refl, sym, ap, ◌∙◌, subst, append_assoc, append-nil}
use Rattle.std.specs.Prelude.{◌↔◌}
use Rattle.std.specs.List.{AllByRecursion, flat_map}
use Rattle.mad_draw.specs.Pieces.{RowPiece, pieces_bytes}
use Rattle.mad_term.specs.Styles.{piece_bytes}
use Rattle.mad_live.specs.Papers.{Paper, Reads}
use Rattle.mad_rows.specs.declared.row_skin.RowSkin.{RowSkin}
use Rattle.mad_links.specs.LinkPapers.{ReadsSkipping}
use Rattle.mad_links.specs.LinkRows.{LinkedPiece, AreAddresses, AreLinkedPieces, begun_bytes, linked_bytes, linked_text_bytes, row_cells, unlinked_text_bytes}
use Rattle.mad_links.specs.LinkTerminal.{LinkPaints}
use Rattle.mad_links.specs.LinkedAreas.{in_no_link}
use Rattle.mad_links.proofs.LinkRowLemmas.{links_are_in_their_cells}
use Rattle.mad_links.proofs.PaperLemmas.{papers_are_the_same}
use Rattle.mad_links.proofs.TerminalLemmas.{texts_are_woven}
use Rattle.mad_pages.specs.PageRows.{RowContent}
use Rattle.mad_page_rows.specs.Faces.{page_row_bytes, page_row_pieces}
use Rattle.markdown_layout.specs.RowEnds.{without_end}
use Rattle.markdown_layout.specs.WrittenPages.{row_bytes}
use Rattle.markdown_layout.proofs.EndLemmas.{end_off}
use Rattle.markdown_linked_pages.specs.LinkedPageLaws.{AreWritten, IsPageWritten, IsWritten, PagesAreWritten, row_links}
use Rattle.markdown_linked_pages.specs.LinkedPageRows.{lead, linked_row_pieces}
use Rattle.markdown_linked_pages.specs.LinkedPages.{closed_end, ended_pieces, linked_row_bytes, linked_rows_bytes}
use Rattle.markdown_linked_pages.proofs.CutLemmas.{row_written}

-- pieces in no link, as they begin a row
plain_begun : (a : List (Option (List ℕ))) (ps : List RowPiece) → begun_bytes a None (map in_no_link ps) ≡ (pieces_bytes ps, None)
plain_begun a [] = refl
plain_begun a (p ∷ ps) = ap (λ (x : List ℕ × Option ℕ). let y : List ℕ × Option ℕ = (piece_bytes p.style p.text ++ x.0, x.1) in y) (plain_begun a ps)

row_by : (a : List (Option (List ℕ))) (skin : RowSkin) (width : Option ℕ) (row : RowContent) (t : Bool)
    → cond t (ended_pieces a (linked_row_pieces skin width false row)) (row_bytes skin width row) ≡ ended_pieces a (cond t (linked_row_pieces skin width false row) (map in_no_link (page_row_pieces skin width false row)))
row_by a skin width row true = refl
row_by a skin width row false =
    let ps = page_row_pieces skin width false row in
    ap (λ (l : List ℕ). l ++ 10 ∷ []) (end_off (pieces_bytes ps) 10 refl) ∙ ap (closed_end a) (sym (plain_begun a ps))

-- a row of a page is written as its pieces are
row_is : (a : List (Option (List ℕ))) (skin : RowSkin) (width : Option ℕ) (row : RowContent) → linked_row_bytes a skin width row ≡ ended_pieces a (row_links skin width row)
row_is a skin width row = row_by a skin width row (lead row.marks)

record IsSoFar (a : List (Option (List ℕ))) (skin : RowSkin) (width : Option ℕ) (rows : List RowContent) : Type 0 where
  written : List (List LinkedPiece)
  each : AreWritten a skin width rows written
  bytes : linked_rows_bytes a skin width rows ≡ linked_text_bytes a written
  pieces : AllByRecursion AreLinkedPieces written

rows_written : (a : List (Option (List ℕ))) (skin : RowSkin) (width : Option ℕ) (rows : List RowContent) → AllByRecursion (λ row. AreLinkedPieces (row_links skin width row)) rows → IsSoFar a skin width rows
rows_written a skin width [] are = record { written = []; each = tt; bytes = refl; pieces = tt }
rows_written a skin width (row ∷ rows) are =
    let rest = rows_written a skin width rows are.1 in
    let (own, is, pieces) = row_written a (row_links skin width row) are.0 in
    record {
      written = own ∷ rest.written;
      each = (is, rest.each);
      bytes = ap (λ (l : List ℕ). l ++ linked_rows_bytes a skin width rows) (row_is a skin width row ∙ is.bytes) ∙ ap (λ (l : List ℕ). (linked_bytes a own ++ 10 ∷ []) ++ l) rest.bytes;
      pieces = (pieces, rest.pieces);
    }

all_paint : (a : List (Option (List ℕ))) (rows : List (List LinkedPiece)) → AllByRecursion AreLinkedPieces rows → AreAddresses a → AllByRecursion (λ ps. LinkPaints (linked_bytes a ps) (row_cells a ps)) rows
all_paint a [] are known = tt
all_paint a (ps ∷ rows) are known = (links_are_in_their_cells a ps are.0 known, all_paint a rows are.1 known)

-- THE LAW
pub pages_written : PagesAreWritten
pages_written a skin width rows known are =
    let h = rows_written a skin width rows are in
    record {
      written = h.written;
      each = h.each;
      bytes = h.bytes;
      same = λ p q. subst (λ (bytes : List ℕ). ReadsSkipping p bytes q ↔ Reads p (unlinked_text_bytes h.written) q) (sym h.bytes)
          (papers_are_the_same (linked_text_bytes a h.written) (unlinked_text_bytes h.written) (texts_are_woven a h.written h.pieces known) p q);
      links = all_paint a h.written h.pieces known;
    }

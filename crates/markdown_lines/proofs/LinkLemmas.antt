-- Where the links of cells and rows lead, one after the other.
use Rattle.std.proofs.Common.{◌≡◌, ℕ, suc, ◌+◌, ◌-◌, ◌<◌, List, [], ◌∷◌, ◌++◌, length, refl, sym, ap, ◌∙◌, arith, append_assoc, append-nil}
use Rattle.std.proofs.lemmas.List.{length-append}
use Rattle.mad_md.specs.Lines.{LineContent}
use Rattle.markdown_marks.specs.Remaining.{Remaining}
use Rattle.markdown_lines.specs.Links.{Defined, LinkSaid, leaf_addresses, links_at}
use Rattle.markdown_cells.specs.Cells.{cell_text, after_cell}
use Rattle.markdown_lines.specs.Tables.{cells_addresses, row_addresses, rows_links}

-- ---- cells

addresses_suc : (defined : Defined) (more : ℕ) (row : List ℕ) → cells_addresses defined (suc more) row ≡ leaf_addresses defined (cell_text row) ++ cells_addresses defined more (after_cell row)
unfolding cells_addresses
addresses_suc defined more row = refl

-- where the links of one more cell lead is put, and those behind it are to come
pub addresses_next : (defined : Defined) (done now : List (List ℕ)) (row next : List ℕ) (more : ℕ) → 0 < more → now ≡ done ++ leaf_addresses defined (cell_text row) → next ≡ after_cell row
    → now ++ cells_addresses defined (more - 1) next ≡ done ++ cells_addresses defined more row
addresses_next defined done now row next more some now_is next_is =
    let e : more ≡ suc (more - 1) = omega arith in
    let first : List (List ℕ) = leaf_addresses defined (cell_text row) in
    ap (λ (r : List ℕ). now ++ cells_addresses defined (more - 1) r) next_is
    ∙ ap (λ (ts : List (List ℕ)). ts ++ cells_addresses defined (more - 1) (after_cell row)) now_is
    ∙ append_assoc done first (cells_addresses defined (more - 1) (after_cell row))
    ∙ ap (λ (ts : List (List ℕ)). done ++ ts) (sym (addresses_suc defined (more - 1) row))
    ∙ ap (λ (n : ℕ). done ++ cells_addresses defined n row) (sym e)

-- where no cell is to come, all are put
pub addresses_done : (defined : Defined) (now whole : List (List ℕ)) (row : List ℕ) (more : ℕ) → more ≡ 0 → now ++ cells_addresses defined more row ≡ whole → now ≡ whole
unfolding cells_addresses
addresses_done defined now whole row more none is = sym (append-nil now) ∙ sym (ap (λ (n : ℕ). now ++ cells_addresses defined n row) none) ∙ is

-- ---- rows

-- the links of one more row are put, and those behind it are to come
pub rows_step : (defined : Defined) (columns at next : ℕ) (done now : List LinkSaid) (line : Remaining) (lines : List Remaining) → next ≡ at + 1 → now ≡ done ++ links_at at (row_addresses defined columns line)
    → now ++ rows_links defined columns next lines ≡ done ++ rows_links defined columns at (line ∷ lines)
unfolding rows_links
rows_step defined columns at next done now line lines next_is now_is =
    ap (λ (n : ℕ). now ++ rows_links defined columns n lines) next_is
    ∙ ap (λ (ls : List LinkSaid). ls ++ rows_links defined columns (at + 1) lines) now_is
    ∙ append_assoc done (links_at at (row_addresses defined columns line)) (rows_links defined columns (at + 1) lines)

-- where no row is to come, all are put
pub rows_end : (defined : Defined) (columns at : ℕ) (now whole : List LinkSaid) → now ++ rows_links defined columns at [] ≡ whole → now ≡ whole
unfolding rows_links
rows_end defined columns at now whole is = sym (append-nil now) ∙ is

-- a line more
pub one_more : (before now : List LineContent) (line : LineContent) → now ≡ before ++ line ∷ [] → length now ≡ length before + 1
one_more before now line is = ap length is ∙ length-append before (line ∷ [])

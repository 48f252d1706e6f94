-- Alignments of columns, one after the other.
use Rattle.std.proofs.Common.{◌≡◌, ℕ, suc, ◌-◌, ◌<◌, List, [], ◌∷◌, ◌++◌, refl, sym, ap, ◌∙◌, arith, append_assoc, append-nil}
use Rattle.mad_md.specs.declared.alignment.Alignment.{Alignment}
use Rattle.markdown_cells.specs.Cells.{cell_of, after_cell, alignment_of, alignments}

alignments_suc : (more : ℕ) (row : List ℕ) → alignments (suc more) row ≡ alignment_of (cell_of row) ∷ alignments more (after_cell row)
unfolding alignments
alignments_suc more row = refl

-- the alignment of one more column is put, and those behind it are to come
pub alignments_next : (done now : List Alignment) (x : Alignment) (cell row next : List ℕ) (more : ℕ) → 0 < more → now ≡ done ++ x ∷ [] → x ≡ alignment_of cell → cell ≡ cell_of row → next ≡ after_cell row
    → now ++ alignments (more - 1) next ≡ done ++ alignments more row
alignments_next done now x cell row next more some now_is x_is cell_is next_is =
    let e : more ≡ suc (more - 1) = omega arith in
    ap (λ (rs : List Alignment). rs ++ alignments (more - 1) next) now_is
    ∙ append_assoc done (x ∷ []) (alignments (more - 1) next)
    ∙ ap (λ (y : Alignment). done ++ y ∷ alignments (more - 1) next) (x_is ∙ ap alignment_of cell_is)
    ∙ ap (λ (r : List ℕ). done ++ alignment_of (cell_of row) ∷ alignments (more - 1) r) next_is
    ∙ ap (λ (rs : List Alignment). done ++ rs) (sym (alignments_suc (more - 1) row))
    ∙ ap (λ (n : ℕ). done ++ alignments n row) (sym e)

-- where no column is to come, all are put
pub alignments_done : (now : List Alignment) (row : List ℕ) (more : ℕ) → more ≡ 0 → now ++ alignments more row ≡ now
unfolding alignments
alignments_done now row more e = ap (λ (n : ℕ). now ++ alignments n row) e ∙ append-nil now

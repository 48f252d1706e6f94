use Rattle.std.proofs.Common.{◌≡◌, ◌⊎◌, ⊎_elim, inl, inr, ℕ, true, List, get_or, slice_index_or, ap, sym, ◌∙◌, subst, arith, below_more}
use Rattle.std.proofs.lemmas.List.{get_or_read}
use Rattle.mad_screen.specs.Glyph.{Glyph, Look, look_of}
use Rattle.mad_screen.specs.Grid.{blank, is_tail}
use Rattle.mad_frames.proofs.PieceLemmas.{tail_or_in_pen}
use Rattle.mad_frames.proofs.pieces.piece_length.Goals as goal

one_more : (cells : List Glyph) (end : ℕ) (first cell : Glyph) (p : Look) → first ≡ get_or cells 0 blank → p ≡ first.pen → cell ≡ get_or cells end blank → (is_tail cell ≡ true) ⊎ (cell.pen ≡ p) → (is_tail (get_or cells end blank) ≡ true) ⊎ ((get_or cells end blank).pen ≡ (get_or cells 0 blank).pen)
one_more cells end first cell p first_is pen cell_is h =
    subst (λ (g : Glyph). (is_tail g ≡ true) ⊎ (g.pen ≡ (get_or cells 0 blank).pen)) cell_is
    (⊎_elim (λ (t : is_tail cell ≡ true). inl t) (λ (e : cell.pen ≡ p). inr (e ∙ pen ∙ ap (λ (g : Glyph). g.pen) first_is)) h)

pub loop-end-preserved : goal.loop-end-preserved
loop-end-preserved c =
    let cells = c.args.cells.now in
    let first : c.index-cells-0.result ≡ get_or cells 0 blank = get_or_read cells 0 c.index-cells-0.result (omega arith) c.index-cells-0.is blank in
    let cell : c.index-cells-end.result ≡ get_or cells c.loop-end.end blank = get_or_read cells c.loop-end.end c.index-cells-end.result (omega arith) c.index-cells-end.is blank in
    below_more (λ i. (is_tail (slice_index_or cells i blank) ≡ true) ⊎ ((slice_index_or cells i blank).pen ≡ (slice_index_or cells 0 blank).pen)) _ c.loop-end.invariant
    (one_more cells c.loop-end.end c.index-cells-0.result c.index-cells-end.result (look_of c.first.inside.pen) first (ap (λ (g : Glyph). g.pen) c.first.view_is) cell
    (tail_or_in_pen c.index-cells-end.result (look_of c.first.inside.pen) (sym c.continues.ensures ∙ c.if-not-continues.false)))

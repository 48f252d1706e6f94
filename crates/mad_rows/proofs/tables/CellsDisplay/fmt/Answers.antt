use Rattle.std.proofs.Common.{refl, sym, ap, ◌∙◌, take}
use Rattle.std.specs.List.{flat_map}
use Rattle.std.proofs.Output.{has_written_of_eq, has_written_append}
use Rattle.mad_draw.specs.Pieces.{pieces_bytes}
use Rattle.mad_rows.specs.Rows.{cell_pieces}
use Rattle.mad_draw.proofs.PieceLemmas.{bytes_taken_of, bytes_both}
use Rattle.mad_rows.proofs.tables.CellsDisplay.fmt.Goals as goal

pub loop-composite-preserved : goal.loop-composite-preserved
loop-composite-preserved g c = λ p.
    let pieces = cell_pieces c.args.self.now.skin.now in
    let cells = c.args.self.now.cells.now in
    let i = c.loop-composite.composite-index in
    let written = rw c.cell_margins-margins.ensures at (rw c.vertical-border.ensures at (c.in_ok-write.ensures.writes (c.loop-composite.invariant p).plain refl)) in
    has_written_of_eq _ _ _ _ _ (sym (bytes_both (flat_map pieces (take i cells)) (pieces c.composite-item.result)) ∙ ap pieces_bytes (bytes_taken_of pieces cells i c.composite-item.result c.loop-composite-test.true c.composite-item.is))
    (has_written_append _ _ _ _ _ _ (c.loop-composite.invariant p) written)

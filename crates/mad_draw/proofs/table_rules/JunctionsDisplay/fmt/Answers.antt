use Rattle.std.proofs.Common.{refl, sym, ap, ◌∙◌, take}
use Rattle.std.specs.Prelude.{get_or}
use Rattle.std.specs.List.{flat_map}
use Rattle.std.proofs.Output.{has_written_of_eq, has_written_append}
use Rattle.mad_draw.specs.Pieces.{pieces_bytes}
use Rattle.mad_draw.specs.TableRules.{junction}
use Rattle.mad_screen.proofs.Lines.{piece_more}
use Rattle.mad_draw.proofs.PieceLemmas.{bytes_both}
use Rattle.mad_draw.proofs.table_rules.JunctionsDisplay.fmt.Goals as goal

pub loop-width-preserved : goal.loop-width-preserved
loop-width-preserved g c = λ p.
    let pieces = junction c.args.self.now.style c.args.self.now.chars in
    let widths = c.args.self.now.widths.now in
    let i = c.loop-width.width-index in
    let written = rw (c.border-junction.ensures, c.horizontals-horizontals.ensures) at (c.in_ok-write.ensures.writes (c.loop-width.invariant p).plain refl) in
    has_written_of_eq _ _ _ _ _ (sym (bytes_both (flat_map pieces (take i widths)) (pieces (get_or widths i 0))) ∙ ap pieces_bytes (piece_more pieces widths i 0 c.loop-width-test.true))
    (has_written_append _ _ _ _ _ _ (c.loop-width.invariant p) written)

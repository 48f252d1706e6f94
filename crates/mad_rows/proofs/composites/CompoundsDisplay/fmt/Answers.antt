use Rattle.std.proofs.Common.{refl}
use Rattle.std.proofs.Output.{has_written_of_eq, has_written_append}
use Rattle.mad_rows.specs.Rows.{compound_piece}
use Rattle.mad_draw.proofs.PieceLemmas.{pieces_taken}
use Rattle.mad_rows.proofs.PieceLemmas.{bare_taken}
use Rattle.mad_rows.proofs.composites.CompoundsDisplay.fmt.Goals as goal

pub loop-compound-preserved : goal.loop-compound-preserved
loop-compound-preserved g c = λ p.
    has_written_of_eq _ _ _ _ _ (pieces_taken (compound_piece c.args.self.now.skin.now c.args.self.now.style.now) c.args.self.now.compounds.now c.loop-compound.compound-index _ c.loop-compound-test.true)
    (has_written_append _ _ _ _ _ _ (c.loop-compound.invariant p) (c.in_ok-fmt.ensures.writes (c.loop-compound.invariant p).plain refl))

pub loop-compound-preserved-then-is_bare : goal.loop-compound-preserved-then-is_bare
loop-compound-preserved-then-is_bare g c = λ p.
    let skin = c.args.self.now.skin.now in
    let line = c.args.self.now.style.now in
    has_written_of_eq _ _ _ _ _
    (bare_taken skin line c.args.self.now.compounds.now c.loop-compound.compound-index _ c.loop-compound-test.true (c.is_unstyled-unstyled.ensures.unstyled.0 c.if-unstyled.true) (c.is_bare.ensures c.if-is_bare.true skin line))
    (has_written_append _ _ _ _ _ _ (c.loop-compound.invariant p) (c.in_ok-write_str.ensures.writes (c.loop-compound.invariant p).plain refl))

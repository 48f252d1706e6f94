use Rattle.mad_rows.specs.Rows.{compound_piece}
use Rattle.mad_draw.proofs.PieceLemmas.{pieces_taken}
use Rattle.mad_rows.proofs.PieceLemmas.{bare_taken, put_after}
use Rattle.mad_rows.proofs.StyleLemmas.{styled_after}
use Rattle.mad_rows.proofs.row_writing.append_compounds.Goals as goal

pub loop-compound-preserved-then-is_bare : goal.loop-compound-preserved-then-is_bare
loop-compound-preserved-then-is_bare c =
    let skin = c.args.skin.now in
    let line = c.args.style.now in
    put_after _ _ _ _ _ _ c.in_ok-push_str.ensures.bytes c.loop-compound.invariant
    (bare_taken skin line c.args.compounds.now c.loop-compound.compound-index _ c.loop-compound-test.true (c.is_unstyled-unstyled.ensures.unstyled.0 c.if-unstyled.true) (c.is_bare.ensures c.if-is_bare.true skin line))

pub loop-compound-preserved : goal.loop-compound-preserved
loop-compound-preserved c =
    put_after _ _ _ _ _ _ (styled_after _ _ _ c.compound_style.result _ c.in_ok-append.ensures c.compound_style.ensures) c.loop-compound.invariant
    (pieces_taken (compound_piece c.args.skin.now c.args.style.now) c.args.compounds.now c.loop-compound.compound-index _ c.loop-compound-test.true)

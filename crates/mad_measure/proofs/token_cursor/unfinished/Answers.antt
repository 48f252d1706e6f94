use Rattle.mad_measure.proofs.CursorLemmas.{same_position, position_more}
use Rattle.mad_measure.proofs.token_cursor.unfinished.Goals as goal

pub loop-at-init : goal.loop-at-init
loop-at-init c = same_position _ _ c.requires.border

pub loop-at-preserved : goal.loop-at-preserved
loop-at-preserved c = position_more _ _ _ _ _ _ c.loop-at-test.true c.loop-at.invariant c.if-start-compounds.false

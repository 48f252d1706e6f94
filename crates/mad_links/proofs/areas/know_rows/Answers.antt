use Rattle.std.proofs.Common.{arith}
use Rattle.mad_draw.specs.Pieces.{AreKnown}
use Rattle.mad_links.specs.LinkedAreas.{without_links}
use Rattle.mad_links.proofs.AreaLemmas.{known_more}
use Rattle.mad_links.proofs.areas.know_rows.Goals as goal

pub loop-y-init : goal.loop-y-init
loop-y-init g c = λ y below. absurd (omega arith)

pub loop-y-preserved : goal.loop-y-preserved
loop-y-preserved g c = known_more (λ y. AreKnown (without_links (g.R.LinkedRows.pieces c.args.rows.now y))) c.loop-y.y c.loop-y.invariant c.know_row-in-loop-y.ensures.known

pub returns-clause-known : goal.returns-clause-known
returns-clause-known g c = λ y below. c.loop-y.invariant y (omega arith)

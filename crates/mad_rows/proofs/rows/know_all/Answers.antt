use Rattle.mad_rows.proofs.KnownLemmas.{all_taken}
use Rattle.mad_rows.proofs.rows.know_all.Goals as goal

pub loop-style-preserved : goal.loop-style-preserved
loop-style-preserved g c = all_taken g.S.KnownStyle.known c.args.styles.now c.loop-style.style-index c.style-item.result c.loop-style-test.true c.style-item.is c.loop-style.invariant c.know.ensures

use Rattle.markdown_code.proofs.LineLemmas.{all_lines}
use Rattle.markdown_code.proofs.reading.fence_lines.Goals as goal

pub returns : goal.returns
returns c = all_lines _ _ c.loop-rest.rest.now c.is_empty.result c.loop-rest.invariant c.is_empty.ensures c.loop-rest-test.false

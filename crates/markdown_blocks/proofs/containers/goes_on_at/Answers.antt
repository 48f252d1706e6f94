use Rattle.markdown_marks.specs.Remaining.{remaining}
use Rattle.markdown_blocks.proofs.ContainerLemmas.{goes_on_more}
use Rattle.markdown_blocks.proofs.containers.goes_on_at.Goals as goal

pub returns : goal.returns
returns c = goes_on_more c.args.bare c.is_bare_at-bare_here.result c.args.containers.now c.args.at _ (remaining c.args.rest) _ c.requires c.is_bare_at-bare_here.ensures c.goes_on.ensures

use Rattle.mad_keys.proofs.ReadingLemmas.{block_read}
use Rattle.mad_keys.proofs.laws.blocks_are_read.Goals as goal

pub returns : goal.returns
returns c = block_read

use Rattle.mad_keys.proofs.ReadingLemmas.{bytes_read}
use Rattle.mad_keys.proofs.laws.bytes_are_read.Goals as goal

pub returns : goal.returns
returns c = bytes_read

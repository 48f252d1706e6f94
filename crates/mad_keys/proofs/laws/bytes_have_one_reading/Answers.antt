use Rattle.mad_keys.proofs.CutLemmas.{found, alone}
use Rattle.mad_keys.proofs.laws.bytes_have_one_reading.Goals as goal

pub returns : goal.returns
returns c = record { found = found; alone = alone }

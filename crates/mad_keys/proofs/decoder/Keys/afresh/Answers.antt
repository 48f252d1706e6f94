use Rattle.mad_keys.proofs.DecoderLemmas.{afresh_ends}
use Rattle.mad_keys.proofs.decoder.Keys.afresh.Goals as goal

pub returns-in_default : goal.returns-in_default
returns-in_default c = afresh_ends c.args.self.now c.args.b c.step_of.result c.end.result c.end.new.self c.requires c.step_of.ensures c.in_default.not-Waits c.end.ensures.told c.end.ensures.none_waits

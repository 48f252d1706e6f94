use Rattle.mad_stream.proofs.SourceLemmas.{kept_front}
use Rattle.mad_stream.proofs.sources.keep_from.Goals as goal

pub returns-clause-kept : goal.returns-clause-kept
returns-clause-kept c = kept_front c.args.block.now c.copy_within.new.self c.args.from c.args.to c.requires.order c.requires.inside c.copy_within.ensures.after

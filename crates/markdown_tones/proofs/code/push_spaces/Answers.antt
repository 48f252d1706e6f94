use Rattle.std.proofs.Common.{arith}
use Rattle.markdown_tones.proofs.SourceLemmas.{space_more}
use Rattle.markdown_tones.proofs.code.push_spaces.Goals as goal

pub loop-more-preserved : goal.loop-more-preserved
loop-more-preserved c = space_more c.args.source.now.items c.loop-more.source.items c.push.new.self.items _ c.loop-more.more (omega arith) c.in_ok-push.ensures.items c.loop-more.invariant

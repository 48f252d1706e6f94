use Rattle.std.proofs.Common.{arith}
use Rattle.markdown_spans.proofs.NeedleLemmas.{none_from}
use Rattle.markdown_spans.proofs.needles.after_known.Goals as goal

pub returns-then-last-at : goal.returns-then-last-at
returns-then-last-at c = none_from c.args.needle.now c.args.text.now c.args.last c.args.at c.args.skip c.requires.last (omega arith)

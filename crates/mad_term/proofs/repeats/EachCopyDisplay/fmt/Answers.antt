use Rattle.std.proofs.Common.{rules}
use Rattle.std.proofs.Output.{has_written_of_eq, has_written_append}
use Rattle.mad_term.proofs.Repeating.{repeat-more}
use Rattle.mad_term.proofs.repeats.EachCopyDisplay.fmt.Goals as goal

pub loop-preserved : goal.loop-preserved
loop-preserved g c = λ p.
    let text = c.args.self.now.content.now in
    has_written_of_eq _ _ _ _ _ (repeat-more c.loop.counter text)
    (has_written_append _ _ _ _ text _ (c.loop.invariant p) (search rules))

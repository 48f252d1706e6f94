use Rattle.std.proofs.Common.{sym, arith}
use Rattle.markdown_spans.proofs.TickLemmas.{none_from}
use Rattle.markdown_spans.proofs.ticks.first_run.Goals as goal

pub returns-then-last_of-from-clause-value : goal.returns-then-last_of-from-clause-value
returns-then-last_of-from-clause-value c =
    sym (none_from c.args.marks c.args.from c.args.text.now c.requires.some c.requires.within c.requires.apart
    (omega (arith, c.if-last_of-from.true, c.last_of.ensures, c.requires.lasts c.args.marks c.requires.some)))

use Rattle.std.proofs.Common.{sym}
use Rattle.mad_measure.proofs.PrintableLemmas.{unchanged}
use Rattle.mad_measure.proofs.untrusted.is_printable.Goals as goal

pub returns-clause-unchanged : goal.returns-clause-unchanged
returns-clause-unchanged c = unchanged c.args.text.now _ c.utf8.text (sym c.printable_front.ensures.front.all)

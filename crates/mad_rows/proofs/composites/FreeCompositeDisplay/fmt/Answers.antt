use Rattle.std.proofs.Common.{rules}
use Rattle.std.proofs.Output.{has_written_of_eq}
use Rattle.mad_rows.proofs.PieceLemmas.{free_bytes}
use Rattle.mad_rows.proofs.composites.FreeCompositeDisplay.fmt.Goals as goal

pub returns-clause-writes : goal.returns-clause-writes
returns-clause-writes g c = λ plain. λ ok.
    has_written_of_eq _ _ _ _ _ (free_bytes c.args.self.now.skin.now c.from-kind.result _ c.line_style-style.result.now c.deref.result.now c.args.self.now.composite.now.compounds.items c.from-kind.ensures c.line_style-style.ensures c.deref.ensures.value) (search rules)

use Rattle.std.proofs.Common.{rules}
use Rattle.mad_format.proofs.indents.composite_kind_widths.Goals as goal

pub returns-clause-first : goal.returns-clause-first
returns-clause-first g c = search rules

pub returns-clause-other : goal.returns-clause-other
returns-clause-other g c = search rules

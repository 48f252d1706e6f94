use Rattle.std.proofs.Common.{sym, ◌∙◌}
use Rattle.code_colors.proofs.PassLemmas.{decided}
use Rattle.code_colors.proofs.places.passed_all.Goals as goal

pub returns-then-ends_decisively : goal.returns-then-ends_decisively
returns-then-ends_decisively c = sym (decided c.args.bytes.now c.args.before (sym c.ends_decisively.ensures ∙ c.if-ends_decisively.true))

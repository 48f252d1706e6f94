use Rattle.std.proofs.Common.{ap, sym, ◌∙◌, arith}
use Rattle.std.proofs.lemmas.List.{take_more_set}
use Rattle.mad_input.specs.Marks.{one_more}
use Rattle.mad_input.proofs.marks.Since.add.Goals as goal

pub returns-then-b-eq-ESC : goal.returns-then-b-eq-ESC
returns-then-b-eq-ESC c = take_more_set c.self.inside.kept 0 27 (omega (arith, c.self.told)) ∙ ap (one_more c.args.self.now) (sym c.if-b-eq-ESC.true)

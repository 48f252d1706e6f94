use Rattle.std.proofs.Common.{◌∙◌, sym}
use Rattle.mad_rows.proofs.StyleLemmas.{same_style_true}
use Rattle.mad_rows.proofs.style_commands.StyleCommands.know.Goals as goal

pub returns-then-eq : goal.returns-then-eq
returns-then-eq c = sym c.self.view_is ∙ same_style_true c.self.inside.style c.args.style (sym c.eq.ensures ∙ c.if-eq.true)

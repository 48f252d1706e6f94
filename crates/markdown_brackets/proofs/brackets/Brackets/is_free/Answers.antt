use Rattle.std.proofs.Common.{◌∙◌, arith}
use Rattle.markdown_brackets.proofs.BracketLemmas.{marked_free}
use Rattle.markdown_brackets.proofs.brackets.Brackets.is_free.Goals as goal

pub returns : goal.returns
returns c = c.is_empty.ensures ∙ marked_free c.args.self.now.dead _ c.args.self.now.brackets.items (omega (arith, c.args.self.now.brackets.ok))

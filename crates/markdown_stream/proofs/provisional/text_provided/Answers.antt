use Rattle.std.proofs.Common.{sym, ◌∙◌}
use Rattle.markdown_lines.specs.LinksOf.{defined_of}
use Rattle.markdown_stream.proofs.ProvisionalLemmas.{names_none}
use Rattle.markdown_stream.proofs.provisional.text_provided.Goals as goal

pub returns-then-not-may_name : goal.returns-then-not-may_name
returns-then-not-may_name c = names_none (defined_of c.args.definitions.now) c.args.text.now (sym c.may_name.ensures ∙ c.if-not-may_name.true)

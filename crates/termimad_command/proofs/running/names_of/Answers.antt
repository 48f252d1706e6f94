use Rattle.std.proofs.Common.{◌∙◌, sym}
use Rattle.termimad_command.proofs.RunLemmas.{some_named}
use Rattle.termimad_command.proofs.running.names_of.Goals as goal

pub returns : goal.returns
returns c = some_named c.args.call.now.files.items c.as_slice-names.result.now (sym c.is_empty.ensures ∙ c.if-is_empty.false) c.as_slice-names.ensures.value

use Rattle.std.proofs.Common.{◌∙◌}
use Rattle.termimad_options.proofs.CallLemmas.{columns_read}
use Rattle.termimad_options.proofs.calls.columns_written.Goals as goal

pub returns : goal.returns
returns c = c.ok.ensures.value ∙ columns_read c.args.text.now c.parse.result c.parse.ensures.value.0

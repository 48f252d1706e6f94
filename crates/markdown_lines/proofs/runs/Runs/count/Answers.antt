use Rattle.std.proofs.Common.{◌∙◌, sym, ap, length}
use Rattle.std.specs.Prelude.{string_bytes}
use Rattle.markdown_lines.proofs.RunLemmas.{count_said}
use Rattle.markdown_lines.proofs.runs.Runs.count.Goals as goal

pub returns : goal.returns
returns c = ap length c.as_slice.ensures.value ∙ sym (count_said (string_bytes c.args.self.now.text) c.args.self.now.places.items)

use Rattle.std.proofs.Common.{◌∙◌}
use Rattle.markdown_live.proofs.ReadLemmas.{has_last_rows}
use Rattle.markdown_live.proofs.live_markdown.LiveMarkdown.last_rows.Goals as goal

pub returns-clause-rows : goal.returns-clause-rows
returns-clause-rows c = has_last_rows c.args.self.now c.end.new.self c.in_ok-read.read c.deref.result.now _ c.in_ok-end.ensures c.in_ok-read.ensures.sections (c.deref.ensures.value ∙ c.in_ok-push.ensures.items) c.in_ok-done.ensures

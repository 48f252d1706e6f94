use Rattle.std.proofs.Common.{refl}
use Rattle.markdown_live.proofs.LiveLemmas.{starts_live}
use Rattle.markdown_live.proofs.ReadLemmas.{starts_reading}
use Rattle.markdown_live.proofs.live_markdown.LiveMarkdown.new.Goals as goal

pub returns-clause-start : goal.returns-clause-start
returns-clause-start c = starts_live _ (starts_reading _ c.in_ok-sections.ensures.come c.in_ok-sections.ensures.empty refl c.new-2.ensures.items) c.new-3.ensures.tail

use Rattle.std.proofs.Common.{refl}
use Rattle.markdown_stream.proofs.StreamLemmas.{starts}
use Rattle.markdown_stream.proofs.stream.MarkdownStream.new.Goals as goal

pub returns-clause-start : goal.returns-clause-start
returns-clause-start c = starts _ refl refl c.new.ensures.items

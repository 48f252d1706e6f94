use Rattle.markdown_reader.specs.MarkdownSays.{markdown_says}
use Rattle.markdown_layout.proofs.KeptLemmas.{read_keeps}
use Rattle.markdown_layout.proofs.drawing.read_drawable.Goals as goal

pub returns-clause-premises : goal.returns-clause-premises
returns-clause-premises c = let read = c.in_ok-read.ensures in read_keeps c.args.source.now (markdown_says c.in_ok-read.read) read.sections read.printed read.steady

use Rattle.std.proofs.Common.{map}
use Rattle.markdown_headings.specs.HeadingsSaid.{heading_said}
use Rattle.markdown_headings.proofs.PrintedLemmas.{said_printed}
use Rattle.markdown_reader.specs.MarkdownSays.{markdown_says}
use Rattle.markdown_headings.proofs.naming.headings.Goals as goal

pub returns-clause-printed : goal.returns-clause-printed
returns-clause-printed c = said_printed (markdown_says c.args.markdown.now) (map heading_said c.in_ok-found.found.items) c.in_ok-found.ensures

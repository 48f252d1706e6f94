use Rattle.std.proofs.Common.{map}
use Rattle.mad_dressing.specs.Dressed.{put_of}
use Rattle.mad_dressing.proofs.DressLemmas.{page_dressed}
use Rattle.markdown_reader.specs.MarkdownSays.{markdown_says}
use Rattle.markdown_layout.proofs.dressed_markdown.DressedMarkdown.new.Goals as goal

pub returns : goal.returns
returns c = page_dressed c.args.marks (map put_of c.in_ok-dressings.dressings.items) (markdown_says c.args.markdown) c.in_ok-dressings.ensures

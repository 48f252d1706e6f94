use Rattle.markdown_stream.proofs.StreamLemmas.{ends_laid}
use Rattle.markdown_stream.proofs.stream.MarkdownStream.end_text.Goals as goal

pub returns : goal.returns
returns c =
    ends_laid c.args.self.now c.begun.new.self c.lay.new.self c.in_ok-sections.sections c.end.new.self c.in_ok-sections.ensures.begun c.begun.ensures.same c.in_ok-end.ensures c.in_ok-lay.ensures.rows

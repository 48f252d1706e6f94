use Rattle.markdown_stream.proofs.StreamLemmas.{takes_piece}
use Rattle.markdown_stream.proofs.stream.MarkdownStream.take.Goals as goal

pub returns : goal.returns
returns c =
    takes_piece c.args.self.now c.begun.new.self c.lay.new.self c.in_ok-sections.sections c.feed.new.self c.lay.new.sections c.args.piece.now c.coming.result.now c.still_fresh-self.result c.utf8.piece c.coming.ensures c.still_fresh-self.ensures
    c.in_ok-sections.ensures.begun c.begun.ensures.same c.in_ok-feed.ensures c.in_ok-lay.ensures.rows c.in_ok-lay.ensures.takes c.in_ok-lay.ensures.none c.lay.ensures.same

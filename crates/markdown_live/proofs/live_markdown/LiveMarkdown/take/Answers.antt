use Rattle.markdown_live.proofs.ReadLemmas.{takes_piece}
use Rattle.markdown_live.proofs.live_markdown.LiveMarkdown.take.Goals as goal

pub returns-clause-takes : goal.returns-clause-takes
returns-clause-takes c =
    takes_piece c.args.self.now _ c.feed.new.self c.args.piece.now c.coming.result.now c.in_ok-read.read c.utf8.piece c.coming.ensures c.still_fresh-self.ensures
    c.in_ok-feed.ensures c.in_ok-read.ensures.rest c.in_ok-read.ensures.empty c.in_ok-read.ensures.sections c.in_ok-push.ensures.items

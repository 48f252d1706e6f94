use Rattle.markdown_stream.proofs.StreamLemmas.{feeds}
use Rattle.markdown_stream.proofs.stream.MarkdownStream.feed.Goals as goal

pub returns-clause-fed : goal.returns-clause-fed
returns-clause-fed g c = feeds c.send.result c.args.self.now c.take.new.self c.send.new.self c.args.piece.now _ _ c.in_ok-take.ensures c.send.ensures.sends

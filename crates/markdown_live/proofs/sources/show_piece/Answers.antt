use Rattle.markdown_live.proofs.SourceLemmas.{piece_fed, piece_refused}
use Rattle.markdown_live.proofs.sources.show_piece.Goals as goal

pub returns-in-Ok : goal.returns-in-Ok
returns-in-Ok g c = piece_fed c.in-Ok.field-0 c.args.live.now c.feed.new.self c.args.piece.now c.feed.result _ _ c.utf8.piece c.in-Ok.is c.feed.ensures.fed c.feed.ensures.skin c.feed.ensures.width c.feed.ensures.height

pub returns-in-Err : goal.returns-in-Err
returns-in-Err g c = piece_refused c.in-Err.error c.refusal_of.result c.args.live.now c.feed.new.self c.args.piece.now c.feed.result _ _ c.in-Err.is c.refusal_of.ensures c.feed.ensures.fed c.feed.ensures.early

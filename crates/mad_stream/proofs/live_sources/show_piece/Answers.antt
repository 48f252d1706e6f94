use Rattle.mad_stream.proofs.LiveSourceLemmas.{piece_fed, piece_refused}
use Rattle.mad_stream.proofs.live_sources.show_piece.Goals as goal

pub returns-in-Ok : goal.returns-in-Ok
returns-in-Ok g c =
    piece_fed c.in-Ok.field-0 c.args.live.now c.feed-fed.new.self c.args.piece.now c.feed-fed.result.0 c.feed-fed.result.1 _ _ c.utf8.piece c.in-Ok.is c.feed-fed.ensures.all c.feed-fed.ensures.fed c.feed-fed.ensures.skin c.feed-fed.ensures.width c.feed-fed.ensures.height

pub returns-in-Err : goal.returns-in-Err
returns-in-Err g c = piece_refused c.in-Err.error c.refusal_of.result c.args.live.now c.feed-fed.new.self c.args.piece.now c.feed-fed.result.0 c.feed-fed.result.1 _ _ c.in-Err.is c.refusal_of.ensures c.feed-fed.ensures.fed c.feed-fed.ensures.early

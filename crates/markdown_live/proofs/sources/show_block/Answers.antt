use Rattle.mad_stream.specs.LiveSteps.{StopsInBlock}
use Rattle.mad_stream.proofs.LiveSourceLemmas.{flush_stops}
use Rattle.mad_stream.proofs.SourceLemmas.{refused_exit}
use Rattle.markdown_live.proofs.SourceLemmas.{block_shown}
use Rattle.markdown_live.proofs.sources.show_block.Goals as goal

pub returns-in_err-show_piece : goal.returns-in_err-show_piece
returns-in_err-show_piece g c =
    refused_exit c.from_residual.result _ (λ e. StopsInBlock c.args.block.now (g.O.Out.seen c.args.out.now) e (g.O.Out.seen c.show_piece.new.out)) _ c.from_residual.ensures.1
    (record { text = c.cut_text-is_wrong.result.0.now; front = c.cut_text-is_wrong.ensures.front; stops = c.in_err-show_piece.ensures })

pub returns-in_err-flush : goal.returns-in_err-flush
returns-in_err-flush g c =
    refused_exit c.from_residual-in_err-flush.result _ (λ e. StopsInBlock c.args.block.now (g.O.Out.seen c.args.out.now) e (g.O.Out.seen c.flush.new.out)) _ c.from_residual-in_err-flush.ensures.1
    (record { text = c.cut_text-is_wrong.result.0.now; front = c.cut_text-is_wrong.ensures.front; stops = flush_stops (Unit {0}) _ c.in_ok-show_piece.ensures.fed.bytes _ (g.O.Out.seen c.show_piece.new.out) _ c.in_err-flush.ensures c.in_ok-show_piece.ensures.fed.wrote })

pub returns : goal.returns
returns g c =
    block_shown c.args.live.now c.show_piece.new.live c.args.block.now c.cut_text-is_wrong.result.0.now c.cut_text-is_wrong.result.1 _ (g.O.Out.seen c.show_piece.new.out) _ c.cut_text-is_wrong.ensures.front c.cut_text-is_wrong.ensures.short
    c.cut_text-is_wrong.ensures.wrong c.in_ok-show_piece.ensures c.in_ok-flush.ensures

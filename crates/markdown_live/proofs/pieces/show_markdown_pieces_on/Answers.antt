use Rattle.std.proofs.Common.{◌≡◌, [], List, ℕ, Bor, Result, Ok, get_or, subst}
use Rattle.std.specs.Prelude.{◌⊎◌, IsErrOf}
use Rattle.mad_stream.proofs.StreamLemmas.{pieces_step}
use Rattle.mad_term.specs.declared.errors.Error.{Error}
use Rattle.markdown_live.specs.LiveMarkdowns.{FeedsLive}
use Rattle.markdown_live.proofs.LiveLemmas.{none_memory}
use Rattle.markdown_live.proofs.PieceLemmas.{live_start, live_more, live_end}
use Rattle.markdown_live.proofs.pieces.show_markdown_pieces_on.Goals as goal

pub loop-piece-init : goal.loop-piece-init
loop-piece-init g c = live_start _ _ _ _ c.in_ok-live.live _ c.in_ok-live.ensures.start c.in_ok-live.ensures.skin c.in_ok-live.ensures.width c.in_ok-live.ensures.height

pub loop-piece-preserved : goal.loop-piece-preserved
loop-piece-preserved g c =
    let d : Bor (List ℕ) = record { ref_ptr = (0, 0); now = [] } in
    let x : List ℕ = (get_or c.args.pieces.now c.loop-piece.piece-index d).now in
    live_more c.args.skin.now c.args.width c.args.height c.args.pieces.now c.loop-piece.piece-index x c.loop-piece.live c.feed.new.self _ _ _ c.loop-piece.invariant
    (none_memory c.in_ok-feed.field-0 c.in_ok-feed.ensures.fed)
    c.feed.ensures.skin c.feed.ensures.width c.feed.ensures.height (pieces_step c.args.pieces.now c.loop-piece.piece-index d c.loop-piece-test.true)

pub returns : goal.returns
returns g c = live_end c.args.skin.now c.args.width c.args.height c.args.pieces.now c.loop-piece.piece-index c.loop-piece.live _ _ _ c.finish.result c.loop-piece-test.false c.loop-piece.invariant c.finish.ensures.ends

use Rattle.std.proofs.Common.{◌≡◌, ◌+◌, [], List, ℕ, Bor, length, take, drop, get_or, ap, ◌∙◌, ◌++◌, subst, arith}
use Rattle.std.proofs.lemmas.List.{take_all}
use Rattle.mad_stream.proofs.StreamLemmas.{joined_text, pieces_cut, pieces_step}
use Rattle.markdown_stream.specs.Streams.{Finishes}
use Rattle.markdown_stream.proofs.PieceLemmas.{pieces_done, pieces_more, pieces_refused, pieces_start}
use Rattle.markdown_stream.proofs.pieces.write_markdown_pieces_on.Goals as goal

pub loop-piece-init : goal.loop-piece-init
loop-piece-init g c = pieces_start _ _ c.new-stream.result _ c.new-stream.ensures.start c.new-stream.ensures.skin c.new-stream.ensures.width

pub loop-piece-preserved : goal.loop-piece-preserved
loop-piece-preserved g c =
    let d : Bor (List ℕ) = record { ref_ptr = (0, 0); now = [] } in
    let x : List ℕ = (get_or c.args.pieces.now c.loop-piece.piece-index d).now in
    pieces_more c.args.skin.now c.args.width (joined_text (take c.loop-piece.piece-index c.args.pieces.now)) (joined_text (take (c.loop-piece.piece-index + 1) c.args.pieces.now)) x c.loop-piece.stream c.feed.new.self _ _ _
    c.loop-piece.invariant c.in_ok-feed.ensures.fed (pieces_step c.args.pieces.now c.loop-piece.piece-index d c.loop-piece-test.true)

pub returns-in_err-feed : goal.returns-in_err-feed
returns-in_err-feed g c =
    let d : Bor (List ℕ) = record { ref_ptr = (0, 0); now = [] } in
    let x : List ℕ = (get_or c.args.pieces.now c.loop-piece.piece-index d).now in
    let n : ℕ = length x in
    let whole : take n x ≡ x = take_all n x (omega arith) in
    pieces_refused (Unit {0}) c.from_residual.result _ c.args.skin.now c.args.width (joined_text (take c.loop-piece.piece-index c.args.pieces.now)) x (joined_text c.args.pieces.now) _ c.loop-piece.stream c.feed.new.self _ _ _
    c.loop-piece.invariant c.in_err-feed.ensures.fed
    (pieces_cut c.args.pieces.now c.loop-piece.piece-index n d c.loop-piece-test.true ∙ ap (λ (l : List ℕ). (joined_text (take c.loop-piece.piece-index c.args.pieces.now) ++ l) ++ (drop n x ++ joined_text (drop (c.loop-piece.piece-index + 1) c.args.pieces.now))) whole)
    c.from_residual.ensures.1

pub returns : goal.returns
returns g c =
    let read : List ℕ = joined_text (take c.loop-piece.piece-index c.args.pieces.now) in
    subst (λ (t : List ℕ). Finishes c.args.skin.now c.args.width t [] (g.O.Out.seen c.args.out.now) c.finish.result (g.O.Out.seen c.finish.new.out))
    (ap joined_text (take_all c.loop-piece.piece-index c.args.pieces.now c.loop-piece-test.false))
    (pieces_done c.finish.result c.args.skin.now c.args.width read c.loop-piece.stream _ _ _ c.loop-piece.invariant (c.finish.ensures read c.loop-piece.invariant.sent c.loop-piece.invariant.step))

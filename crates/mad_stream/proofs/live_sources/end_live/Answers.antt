use Rattle.std.proofs.Common.{◌≡◌, [], List, ℕ, subst, sym, ◌∙◌, inr, encode_utf8_all, length}
use Rattle.std.proofs.lemmas.Bool.{eqb-true}
use Rattle.mad_stream.specs.LiveSteps.{EndsWith}
use Rattle.mad_stream.specs.SteadyPieces.{end_piece}
use Rattle.mad_stream.proofs.LiveSourceLemmas.{end_stop_exit, ends_after_piece, no_bytes, stops_at_once}
use Rattle.mad_stream.proofs.live_sources.end_live.Goals as goal

pub returns-in_default : goal.returns-in_default
returns-in_default g c = inr (stops_at_once _)

pub returns-then-is_empty : goal.returns-then-is_empty
returns-then-is_empty g c =
    let none : c.as_str-piece.result.now ≡ [] = no_bytes c.as_str-piece.result.now (eqb-true (length c.as_str-piece.result.now) 0 (sym c.is_empty.ensures ∙ c.if-is_empty.true)) in
    subst (λ (l : List ℕ). EndsWith c.args.live l c.args.ended (g.O.Out.seen c.args.out.now) c.finish_live.result (g.O.Out.seen c.finish_live.new.out)) (sym none ∙ c.as_str-piece.ensures.value ∙ c.in-Ok.ensures) c.finish_live.ensures

pub returns-in_err-show_piece : goal.returns-in_err-show_piece
returns-in_err-show_piece g c = end_stop_exit c.from_residual.result c.args.ended _ c.args.live (encode_utf8_all (end_piece c.args.spot)) _ _ c.in_err-show_piece.ensures c.from_residual.ensures.1

pub returns : goal.returns
returns g c =
    subst (λ (l : List ℕ). EndsWith c.args.live l c.args.ended (g.O.Out.seen c.args.out.now) c.finish_live-2.result (g.O.Out.seen c.finish_live-2.new.out)) (c.as_str-piece.ensures.value ∙ c.in-Ok.ensures)
    (ends_after_piece c.finish_live-2.result c.args.ended c.args.live c.show_piece.new.live _ _ (g.O.Out.seen c.show_piece.new.out) _ c.in_ok-show_piece.ensures c.finish_live-2.ensures)

use Rattle.std.proofs.Common.{◌≡◌, Result, OnOk, length, take, subst, arith}
use Rattle.std.proofs.lemmas.List.{take_all}
use Rattle.mad_term.specs.declared.errors.Error.{Error}
use Rattle.mad_stream.specs.SourceSteps.{StopsInBlock}
use Rattle.mad_stream.specs.Streams.{Steps}
use Rattle.mad_stream.proofs.SourceLemmas.{refused_exit, stops_at_flush, stops_at_rows}
use Rattle.mad_stream.proofs.sources.feed_block.Goals as goal

pub returns-in-Err : goal.returns-in-Err
returns-in-Err g c =
    let text = c.cut_text-is_wrong.result.0.now in
    let n = c.feed-fed.result.0 in
    let fed = subst (λ (r : Result (Unit {0}) Error). Steps c.args.stream.now (take n text) c.feed-fed.new.self (g.O.Out.seen c.args.out.now) r (g.O.Out.seen c.feed-fed.new.out)) c.in-Err.is c.feed-fed.ensures.fed in
    stops_at_rows c.args.stream.now c.args.block.now text n c.feed-fed.new.self _ c.in-Err.error c.refusal_of.result _ c.cut_text-is_wrong.ensures.front c.refusal_of.ensures fed c.feed-fed.ensures.skin c.feed-fed.ensures.width

pub returns-in_err-flush : goal.returns-in_err-flush
returns-in_err-flush g c =
    let text = c.cut_text-is_wrong.result.0.now in
    let n = c.feed-fed.result.0 in
    let fed = subst (λ (r : Result (Unit {0}) Error). Steps c.args.stream.now (take n text) c.feed-fed.new.self (g.O.Out.seen c.args.out.now) r (g.O.Out.seen c.feed-fed.new.out)) c.in-Ok.is c.feed-fed.ensures.fed in
    let all : n ≡ length text = subst (λ (r : Result (Unit {0}) Error). OnOk r (n ≡ length text)) c.in-Ok.is c.feed-fed.ensures.all in
    refused_exit c.from_residual.result _ (λ e. StopsInBlock c.args.stream.now c.args.block.now c.feed-fed.new.self (g.O.Out.seen c.args.out.now) e (g.O.Out.seen c.flush.new.out)) _ c.from_residual.ensures.1
    (stops_at_flush (Unit {0}) (Unit {0}) c.in-Ok.field-0 c.args.stream.now c.args.block.now text (take n text) c.feed-fed.new.self _ (g.O.Out.seen c.feed-fed.new.out) _ _ c.cut_text-is_wrong.ensures.front (take_all n text (omega (arith, all))) fed c.in_err-flush.ensures c.feed-fed.ensures.skin c.feed-fed.ensures.width)

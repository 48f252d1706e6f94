use Rattle.std.proofs.Common.{Result, subst, sym}
use Rattle.mad_term.specs.declared.errors.Error.{Error}
use Rattle.mad_stream.specs.declared.source_error.SourceError.{SourceError}
use Rattle.markdown_stream.specs.SourceSteps.{StopsInBlock}
use Rattle.markdown_stream.specs.Streams.{Feeds}
use Rattle.mad_stream.proofs.SourceLemmas.{refused_exit}
use Rattle.markdown_stream.proofs.SourceLemmas.{stops_at_flush, stops_at_rows}
use Rattle.markdown_stream.proofs.sources.feed_block.Goals as goal

pub returns-in-Err : goal.returns-in-Err
returns-in-Err g c =
    let old = c.args.stream.now in
    let text = c.cut_text-is_wrong.result.0.now in
    let fed = subst (λ (r : Result (Unit {0}) Error). Feeds old text c.feed.new.self (g.O.Out.seen c.args.out.now) r (g.O.Out.seen c.feed.new.out)) c.in-Err.is c.feed.ensures.fed in
    subst (λ (e : SourceError). StopsInBlock old c.args.block.now (g.O.Out.seen c.args.out.now) e (g.O.Out.seen c.feed.new.out)) (sym c.refusal_of.ensures)
    (stops_at_rows (Unit {0}) old c.feed.new.self c.args.block.now text _ c.in-Err.error _ c.cut_text-is_wrong.ensures.front fed)

pub returns-in_err-flush : goal.returns-in_err-flush
returns-in_err-flush g c =
    let old = c.args.stream.now in
    let text = c.cut_text-is_wrong.result.0.now in
    let fed = subst (λ (r : Result (Unit {0}) Error). Feeds old text c.feed.new.self (g.O.Out.seen c.args.out.now) r (g.O.Out.seen c.feed.new.out)) c.in-Ok.is c.feed.ensures.fed in
    refused_exit c.from_residual.result _ (λ e. StopsInBlock old c.args.block.now (g.O.Out.seen c.args.out.now) e (g.O.Out.seen c.flush.new.out)) _ c.from_residual.ensures.1
    (stops_at_flush (Unit {0}) old c.feed.new.self c.args.block.now text _ (g.O.Out.seen c.feed.new.out) _ _ c.cut_text-is_wrong.ensures.front fed c.in_err-flush.ensures)

use Rattle.std.proofs.Common.{Err, Result, sym, subst}
use Rattle.mad_term.specs.declared.errors.Error.{Error}
use Rattle.markdown_stream.specs.SourceSteps.{EndsSource}
use Rattle.markdown_stream.specs.Streams.{Finishes}
use Rattle.mad_stream.specs.declared.source_error.SourceError.{SourceError}
use Rattle.markdown_stream.proofs.SourceLemmas.{end_refused, end_unflushed, ends_whole}
use Rattle.markdown_stream.proofs.sources.end_source.Goals as goal

pub returns-in-Err : goal.returns-in-Err
returns-in-Err g c =
    let s = c.args.stream in
    subst (λ (e : SourceError). EndsSource {T = Unit {0}} s c.args.is_whole (g.O.Out.seen c.args.out.now) (Err e) (g.O.Out.seen c.finish.new.out)) (sym c.refusal_of.ensures)
    (end_refused (Unit {0}) (Unit {0}) c.in-Err.error s c.args.is_whole (g.O.Out.seen c.args.out.now) (g.O.Out.seen c.finish.new.out)
    (λ read sent h. subst (λ (r : Result (Unit {0}) Error). Finishes s.skin s.width read sent (g.O.Out.seen c.args.out.now) r (g.O.Out.seen c.finish.new.out)) c.in-Err.is (c.finish.ensures read sent h)))

pub returns-in_err-flush : goal.returns-in_err-flush
returns-in_err-flush g c =
    let s = c.args.stream in
    end_unflushed (Unit {0}) (Unit {0}) (Unit {0}) c.in-Ok.field-0 _ c.from_residual.result s c.args.is_whole (g.O.Out.seen c.args.out.now) (g.O.Out.seen c.finish.new.out) (g.O.Out.seen c.flush.new.out)
    (λ read sent h. subst (λ (r : Result (Unit {0}) Error). Finishes s.skin s.width read sent (g.O.Out.seen c.args.out.now) r (g.O.Out.seen c.finish.new.out)) c.in-Ok.is (c.finish.ensures read sent h)) c.in_err-flush.ensures c.from_residual.ensures.1

pub returns-then-is_whole : goal.returns-then-is_whole
returns-then-is_whole g c =
    let s = c.args.stream in (
      c.if-is_whole.true,
      ends_whole c.in-Ok.field-0 s (g.O.Out.seen c.args.out.now) (g.O.Out.seen c.finish.new.out) (g.O.Out.seen c.flush.new.out)
          (λ read sent h. subst (λ (r : Result (Unit {0}) Error). Finishes s.skin s.width read sent (g.O.Out.seen c.args.out.now) r (g.O.Out.seen c.finish.new.out)) c.in-Ok.is (c.finish.ensures read sent h)) c.in_ok-flush.ensures,
    )

pub returns-else-is_whole : goal.returns-else-is_whole
returns-else-is_whole g c =
    let s = c.args.stream in (
      c.if-is_whole.false,
      ends_whole c.in-Ok.field-0 s (g.O.Out.seen c.args.out.now) (g.O.Out.seen c.finish.new.out) (g.O.Out.seen c.flush.new.out)
          (λ read sent h. subst (λ (r : Result (Unit {0}) Error). Finishes s.skin s.width read sent (g.O.Out.seen c.args.out.now) r (g.O.Out.seen c.finish.new.out)) c.in-Ok.is (c.finish.ensures read sent h)) c.in_ok-flush.ensures,
    )

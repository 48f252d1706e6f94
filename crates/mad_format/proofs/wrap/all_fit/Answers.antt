use Rattle.std.proofs.Common.{sym, ◌∙◌, subst, refl}
use Rattle.std.proofs.lemmas.List.{at_drop_all}
use Rattle.mad_format.specs.WrappedLines.{AllFit}
use Rattle.mad_format.proofs.WrapLemmas.{next_of}
use Rattle.mad_format.proofs.wrap.all_fit.Goals as goal

pub loop-line-preserved : goal.loop-line-preserved
loop-line-preserved g c =
    let next = next_of _ _ _ c.loop-line-test.true c.line-item.is in
    let fits = c.line_fits.ensures.0 c.if-not-line_fits.false in
    record {
      from = λ rest. c.loop-line.invariant.from (subst (AllFit (g.S.LineSkin.rules c.args.skin.now) c.args.width) (sym next) (fits, rest));
      to = λ all. (subst (AllFit (g.S.LineSkin.rules c.args.skin.now) c.args.width) next (c.loop-line.invariant.to all)).1;
    }

pub returns : goal.returns
returns g c =
    let none = at_drop_all (λ l. l) c.args.lines.now c.loop-line.line-index c.loop-line-test.false in
    (λ on. c.loop-line.invariant.from (subst (AllFit (g.S.LineSkin.rules c.args.skin.now) c.args.width) (sym none) tt), λ all. refl)

pub returns-then-not-line_fits : goal.returns-then-not-line_fits
returns-then-not-line_fits g c =
    let next = next_of _ _ _ c.loop-line-test.true c.line-item.is in (
      λ on. absurd (cc),
      λ all. sym c.if-not-line_fits.true ∙ c.line_fits.ensures.1 (subst (AllFit (g.S.LineSkin.rules c.args.skin.now) c.args.width) next (c.loop-line.invariant.to all)).0,
    )

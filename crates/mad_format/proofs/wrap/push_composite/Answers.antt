use Rattle.std.proofs.Common.{ap, ◌∙◌, arith, subst}
use Rattle.mad_wrap.specs.LeastWords.{IsWrapOf}
use Rattle.mad_wrap.specs.WrapLines.{compounds_of}
use Rattle.mad_format.specs.Indents.{room_of}
use Rattle.mad_format.proofs.WrapLemmas.{then_ok}
use Rattle.mad_format.proofs.ReadWraps.{pushed_wrap}
use Rattle.mad_format.proofs.wrap.push_composite.Goals as goal

pub returns : goal.returns
returns g c =
    then_ok _ _ c.push_wrap.result (λ put. pushed_wrap (g.S.LineSkin.rules c.args.skin.now) c.args.width c.args.composite c.margins_and_rest-inner.result.0 c.room_of-room.result put.0 c.args.lines.now.items c.push_wrap.new.lines.items
    c.margins_and_rest-inner.ensures.margins (c.room_of-room.ensures ∙ ap (room_of (g.S.LineSkin.rules c.args.skin.now) c.args.composite.kind) c.margins_and_rest-inner.ensures.inner) (omega (arith, c.if-composite-inner.false, c.margins_and_rest-inner.ensures.inner))
    (subst (λ ps. IsWrapOf c.room_of-room.result ps (compounds_of put.0)) c.deref.ensures.value put.1) put.2 put.3) c.push_wrap.ensures

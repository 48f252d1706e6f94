use Rattle.std.proofs.Common.{◌<◌, ◌+◌, map, ap, ◌∙◌, arith, subst}
use Rattle.mad_md.specs.Flagged.{run_of, flagged_text}
use Rattle.mad_measure.specs.TextColumns.{width_of}
use Rattle.mad_wrap.specs.LeastWords.{IsWrapOf}
use Rattle.mad_wrap.specs.WrapLines.{compounds_of}
use Rattle.mad_format.specs.Indents.{room_of}
use Rattle.mad_format.proofs.WrapLemmas.{then_ok}
use Rattle.mad_format.proofs.ReadWraps.{read_fits, read_wraps}
use Rattle.mad_format.proofs.wrap.push_read.Goals as goal

pub returns-then-width-eq18446744073709551615 : goal.returns-then-width-eq18446744073709551615
returns-then-width-eq18446744073709551615 g c = then_ok _ _ c.push_composite.result (λ own. (c.from-composite.result, record { kind = c.from-composite.ensures.kind; text = ap (map run_of) c.from-composite.ensures.text; measured = c.from-composite.ensures.measured; spacing = c.from-composite.ensures.spacing; margins = c.from-composite.ensures.margins; known = c.from-composite.ensures.typed }, own.0, own.1, own.2)) c.push_composite.ensures

pub returns-in_default : goal.returns-in_default
returns-in_default g c =
    then_ok _ _ c.push_wrap.result (λ put. read_wraps (g.S.LineSkin.rules c.args.skin.now) c.args.width c.args.composite.style c.from-kind.result c.args.composite.compounds c.margins_and_rest-inner.result.0 c.room_of-room.result put.0 c.args.lines.now.items c.push_wrap.new.lines.items
    c.from-kind.ensures c.margins_and_rest-inner.ensures.margins (c.room_of-room.ensures ∙ ap (room_of (g.S.LineSkin.rules c.args.skin.now) c.from-kind.result) c.margins_and_rest-inner.ensures.inner) (subst (λ ps. c.room_of-room.result.width < c.room_of-room.result.first + width_of (flagged_text ps)) c.deref.ensures.value c.in_default.ensures) (omega (arith, c.if-width-eq18446744073709551615.false, c.ranges.width.fits))
    (subst (λ ps. IsWrapOf c.room_of-room.result ps (compounds_of put.0)) c.deref-in_default.ensures.value put.1) put.2 put.3 c.typed_composite.ensures) c.push_wrap.ensures

pub returns : goal.returns
returns g c =
    let fits = c.in-Some.ensures in
    then_ok _ _ c.put_line.result (λ pushed. read_fits (g.S.LineSkin.rules c.args.skin.now) c.args.width c.in-Some.columns c.args.composite.style c.from-kind.result c.args.composite.compounds c.margins_and_rest-inner.result.0 c.room_of-room.result c.args.lines.now.items c.put_line.new.lines.items
    c.from-kind.ensures c.margins_and_rest-inner.ensures.margins (c.room_of-room.ensures ∙ ap (room_of (g.S.LineSkin.rules c.args.skin.now) c.from-kind.result) c.margins_and_rest-inner.ensures.inner) (fits.0 ∙ ap (λ ps. width_of (flagged_text ps)) c.deref.ensures.value) fits.1 c.ranges.width.fits
    pushed c.typed_composite.ensures) c.put_line.ensures

use Rattle.std.proofs.Common.{◌∷◌, [], map, ap, refl, subst, sym}
use Rattle.mad_md.specs.Flagged.{run_of}
use Rattle.mad_format.specs.CompositeWraps.{IsCompositeWrap}
use Rattle.mad_blocks.specs.LayoutParts.{IsLineAt}
use Rattle.mad_format.specs.declared.line.FmtLine.TheVariants.{Normal}
use Rattle.mad_format.proofs.WrapLemmas.{then_ok}
use Rattle.mad_blocks.proofs.laying.push_read_at.Goals as goal

pub returns-in-Some : goal.returns-in-Some
returns-in-Some g c =
    then_ok _ _ c.push_read.result (λ made. (made.0, made.1, made.2, made.3, subst (λ w. IsLineAt IsCompositeWrap (g.S.LineSkin.rules c.args.skin.now) w (Normal made.0) made.2) (sym c.in-Some.is) made.4)) c.push_read.ensures

pub returns-in-None : goal.returns-in-None
returns-in-None g c =
    let read = c.from.ensures in
    then_ok _ _ c.put_line.result (λ pushed. (
      c.from.result,
      record { kind = read.kind; text = ap (map run_of) read.text; measured = read.measured; spacing = read.spacing; margins = read.margins; known = read.typed },
      Normal c.from.result ∷ [],
      pushed,
      subst (λ w. IsLineAt IsCompositeWrap (g.S.LineSkin.rules c.args.skin.now) w (Normal c.from.result) (Normal c.from.result ∷ [])) (sym c.in-None.is) refl,
    )) c.put_line.ensures

use Rattle.std.proofs.Common.{◌∷◌, [], ◌∙◌, length, length-append, sym, ap, subst, arith}
use Rattle.mad_term.specs.Styles.{opening_bytes}
use Rattle.mad_marked_rows.specs.Openings.{AreOpenings}
use Rattle.mad_marked_rows.proofs.OpeningLemmas.{openings_more}
use Rattle.mad_marked_rows.proofs.paints.openings_of.Goals as goal

pub loop-value-preserved : goal.loop-value-preserved
loop-value-preserved c =
    let held = c.loop-value.invariant in
    record {
      within = omega (arith, c.loop-value-test.true);
      many = ap length c.in_ok-push.ensures.items ∙ omega (arith, length-append c.loop-value.texts.items (c.in_ok-text.text ∷ []), held.many);
      are = subst (AreOpenings c.args.styles.now c.args.base) (sym c.in_ok-push.ensures.items)
          (openings_more c.args.styles.now c.args.base c.loop-value.texts.items c.in_ok-text.text c.loop-value.value held.many held.are (c.in_ok-text.ensures ∙ ap opening_bytes c.style_over.ensures));
    }

pub returns : goal.returns
returns c =
    let held = c.loop-value.invariant in
    subst (AreOpenings c.args.styles.now c.args.base) (sym c.in_ok-push-2.ensures.items)
    (openings_more c.args.styles.now c.args.base c.loop-value.texts.items c.in_ok-text-2.text c.loop-value.value held.many held.are (c.in_ok-text-2.ensures ∙ ap opening_bytes c.style_over-2.ensures))

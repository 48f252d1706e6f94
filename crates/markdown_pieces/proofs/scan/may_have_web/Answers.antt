use Rattle.std.proofs.Common.{sym, ◌∙◌, arith}
use Rattle.markdown_pieces.proofs.WebLemmas.{no_web, more_signless}
use Rattle.markdown_pieces.proofs.scan.may_have_web.Goals as goal

pub loop-at-preserved : goal.loop-at-preserved
loop-at-preserved c = record {
  none = more_signless c.args.text.now c.loop-at.at c.signless_to-at-in-loop-at.result c.loop-at.invariant.none (sym c.is_sign.ensures ∙ c.if-is_sign.false) c.signless_to-at-in-loop-at.ensures.signless;
  inside = c.signless_to-at-in-loop-at.ensures.inside;
}

pub returns : goal.returns
returns c = λ h. no_web c.args.text.now (λ k few. c.loop-at.invariant.none k (omega (arith, few, c.loop-at-test.false)))

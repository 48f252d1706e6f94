use Rattle.std.proofs.Common.{refl, subst, sym}
use Rattle.termimad_c.specs.Inputs.{IsNoText}
use Rattle.termimad_c.proofs.inputs.text_so_far.Goals as goal

pub returns-then-is_wrong : goal.returns-then-is_wrong
returns-then-is_wrong c = (refl, subst (λ b. IsNoText b c.args.bytes.now) (sym c.if-is_last.false) (c.cut_text-is_wrong.ensures.wrong c.if-is_wrong.true))

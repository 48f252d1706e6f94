use Rattle.std.proofs.Common.{arith}
use Rattle.mad_term.proofs.Exits.{refused_exit}
use Rattle.mad_draw.proofs.PartLemmas.{no_part, part_more, refused_part}
use Rattle.mad_draw.proofs.parts.put_parts.Goals as goal

pub loop-number-init : goal.loop-number-init
loop-number-init g c = no_part (g.P.Parts.part c.args.parts.now) _

pub returns-in_err-put_part : goal.returns-in_err-put_part
returns-in_err-put_part g c =
    refused_exit _ _ _ _ _ c.from_residual.ensures.1
    (refused_part (g.P.Parts.part c.args.parts.now) c.loop-number.number (g.P.Parts.count c.args.parts.now) c.in_err-put_part.field-0.0 _ _ _ (omega (arith, c.count-count.ensures, c.loop-number-test.true)) c.loop-number.invariant c.in_err-put_part.ensures)

pub loop-number-preserved : goal.loop-number-preserved
loop-number-preserved g c = part_more (g.P.Parts.part c.args.parts.now) c.loop-number.number _ _ _ c.loop-number.invariant c.in_ok-put_part.ensures

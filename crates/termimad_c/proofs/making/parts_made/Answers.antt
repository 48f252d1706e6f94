use Rattle.std.proofs.Common.{◌∙◌, refl, rules}
use Rattle.mad_frames.specs.Gathered.{gathered_trace}
use Rattle.termimad_c.proofs.Steps.{parts_written}
use Rattle.termimad_c.proofs.making.parts_made.Goals as goal

pub returns : goal.returns
returns c =
    parts_written c.args.text.now c.args.skin.now c.in_ok-text.text.now c.args.width c.from.result c.in_ok-skin.skin c.args.fenced c.args.is_last c.in_ok-used.used c.in_ok-used.is_open _ (gathered_trace c.new-out.result) (gathered_trace c.write_front_on.new.out) c.write_front_on.new.out.bytes.items
    (search rules) (c.from.ensures ∙ c.in_ok-number_of.ensures) c.in_ok-skin.ensures c.in_ok-text.ensures c.new-out.ensures c.in_ok-used.was c.write_front_on.ensures.writes refl

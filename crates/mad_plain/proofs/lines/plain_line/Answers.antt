use Rattle.std.proofs.Common.{◌∙◌, ap, sym, chars}
use Rattle.mad_plain.specs.Pens.{plain_pen}
use Rattle.mad_plain.specs.Runs.{spread}
use Rattle.mad_plain.proofs.LineLemmas.{plain_all}
use Rattle.mad_plain.proofs.lines.plain_line.Goals as goal

pub returns-then-is_plain-clause-shown : goal.returns-then-is_plain-clause-shown
returns-then-is_plain-clause-shown c =
    ap (λ rs. spread plain_pen 0 rs (chars c.args.text.now)) c.new.ensures.items ∙ sym (plain_all (chars c.args.text.now) (sym c.is_plain.ensures ∙ c.if-is_plain.true))

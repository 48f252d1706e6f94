use Rattle.std.proofs.Common.{◌+◌, ◌-◌, ◌≡◌, ap, arith, length, not, ◌∙◌}
use Rattle.mad_md.specs.Lines.{content_of}
use Rattle.mad_search.proofs.PlainLemmas.{apart_tells}
use Rattle.mad_search.proofs.plain.is_apart.Goals as goal

pub returns-in-len1-up : goal.returns-in-len1-up
returns-in-len1-up c =
    let at : (length c.args.part.now - 1) + 1 ≡ length c.args.part.now = omega (arith, c.in-len1-up.len_at_least) in
    ap not c.stand_together.ensures ∙ apart_tells c.args.part.now c.last-item.result (content_of c.args.line.now) (length c.args.part.now - 1) at c.last-item.is

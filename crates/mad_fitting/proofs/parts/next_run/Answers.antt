use Rattle.std.proofs.Common.{arith, refl, rules, length, ap, sym, ◌∙◌}
use Rattle.mad_fitting.proofs.CenteredLemmas.{some_of_false, zero_of}
use Rattle.mad_fitting.proofs.ZoneLemmas.{next_is}
use Rattle.mad_fitting.proofs.PartLemmas.{next_part}
use Rattle.std.specs.Str.{trim_start}
use Rattle.mad_fitting.proofs.parts.next_run.Goals as goal

pub returns-clause-part : goal.returns-clause-part
returns-clause-part c =
    let own = c.solid_front-front.ensures in
    let rest = c.trim_start-rest.ensures.trim ∙ ap trim_start c.range_from.ensures.value in
    let h = next_part c.args.compound.src.now _ c.args.at c.solid_front-front.result (search rules) c.requires rest (some_of_false _ c.if-is_empty.ensures) own.front own.solid in
    record { number_is = refl; order = omega arith; first = h.0; last = h.1 }

pub returns-clause-further : goal.returns-clause-further
returns-clause-further c =
    let own = c.solid_front-front.ensures in
    let rest = c.trim_start-rest.ensures.trim ∙ ap trim_start c.range_from.ensures.value in
    (next_part c.args.compound.src.now _ c.args.at c.solid_front-front.result (search rules) c.requires rest (some_of_false _ c.if-is_empty.ensures) own.front own.solid).2

pub returns-clause-next : goal.returns-clause-next
returns-clause-next c =
    let own = c.solid_front-front.ensures in
    let rest = c.trim_start-rest.ensures.trim ∙ ap trim_start c.range_from.ensures.value in
    let h = next_part c.args.compound.src.now _ c.args.at c.solid_front-front.result (search rules) c.requires rest (some_of_false _ c.if-is_empty.ensures) own.front own.solid in
    next_is c.args.compound.src.now _ c.args.number c.args.at c.solid_front-front.result rest (omega (arith, c.trim_start-rest.ensures.value.3, c.range_from.ensures.len)) own.front own.solid h.3 (record { number_is = refl; order = omega arith; first = h.0; last = h.1 })

pub returns-then-is_empty-clause-last : goal.returns-then-is_empty-clause-last
returns-then-is_empty-clause-last c =
    let rest = c.trim_start-rest.ensures.trim ∙ ap trim_start c.range_from.ensures.value in
    ap length (sym rest) ∙ zero_of _ c.if-is_empty.ensures

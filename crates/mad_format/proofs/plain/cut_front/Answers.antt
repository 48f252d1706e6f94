use Rattle.std.proofs.Common.{sym, ap, ◌∙◌, ◌++◌, ◌-◌, length, drop}
use Rattle.std.specs.Prelude.{chars}
use Rattle.mad_format.proofs.PlainLemmas.{cut_none, border_at, cut_at, cut_end}
use Rattle.mad_format.proofs.plain.cut_front.Goals as goal

pub loop-compound-init : goal.loop-compound-init
loop-compound-init c = cut_none _ _ c.utf8.text c.requires

pub range_from-after-requires : goal.range_from-after-requires
range_from-after-requires c = λ some. border_at _ _ _ _ _ c.loop-compound-test.true c.loop-compound.invariant

pub loop-compound-preserved : goal.loop-compound-preserved
loop-compound-preserved c = cut_at _ _ _ _ _ _ c.loop-compound-test.true c.loop-compound.invariant c.range_from-after.ensures.value

pub split_at-requires : goal.split_at-requires
split_at-requires c = (cut_end _ _ _ _ c.loop-compound-test.false c.loop-compound.invariant).border

pub returns-clause-front : goal.returns-clause-front
returns-clause-front c = ap chars c.split_at.ensures.front ∙ (cut_end _ _ _ _ c.loop-compound-test.false c.loop-compound.invariant).front

pub returns-clause-after : goal.returns-clause-after
returns-clause-after c =
    (cut_end _ _ _ _ c.loop-compound-test.false c.loop-compound.invariant).back
    ∙ ap (λ bs. chars bs ++ chars (drop (length c.args.text.now - length c.loop-compound.after.now) c.args.text.now)) (sym c.split_at.ensures.front)
    ∙ ap (λ bs. chars c.split_at.result.0.now ++ chars bs) (sym c.split_at.ensures.back)

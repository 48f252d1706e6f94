use Rattle.std.proofs.Common.{◌≡◌, ◌∙◌, ap, chars, length, inr, refl, arith, rules}
use Rattle.std.proofs.lemmas.Str.{chars_from_encodes}
use Rattle.mad_measure.specs.TextColumns.{columns}
use Rattle.mad_fitting.proofs.WholeLemmas.{whole_narrow, whole_none, whole_some}
use Rattle.mad_fitting.proofs.parts.whole.Goals as goal

pub returns-then-columns-lt2-clause-none : goal.returns-then-columns-lt2-clause-none
returns-then-columns-lt2-clause-none c = whole_narrow c.args.compound.src.now c.columns-columns.result (c.columns-columns.ensures.value ∙ ap columns c.inside-inside.ensures) c.if-columns-lt2.true

pub returns-then-count-lt2-clause-none : goal.returns-then-count-lt2-clause-none
returns-then-count-lt2-clause-none c =
    let count : c.count-count.result ≡ length (chars c.inside-inside.result.now) = search (rules, chars_from_encodes) in
    whole_none c.args.compound.src.now c.columns-columns.result c.count-count.result (c.columns-columns.ensures.value ∙ ap columns c.inside-inside.ensures) (count ∙ ap length c.inside-inside.ensures) (inr c.if-count-lt2.true)

pub returns-clause-some : goal.returns-clause-some
returns-clause-some c =
    let count : c.count-count.result ≡ length (chars c.inside-inside.result.now) = search (rules, chars_from_encodes) in
    whole_some c.args.compound.src.now c.columns-columns.result c.count-count.result _ (c.columns-columns.ensures.value ∙ ap columns c.inside-inside.ensures) (count ∙ ap length c.inside-inside.ensures) (omega (arith, c.if-columns-lt2.false)) (omega (arith, c.if-count-lt2.false)) refl

use Rattle.std.proofs.Common.{◌∙◌, ap, arith, chars, sym}
use Rattle.mad_list_columns.specs.Places.{spaced}
use Rattle.mad_list_columns.proofs.PlaceLemmas.{chars_in_place, front_fits}
use Rattle.mad_list_columns.proofs.spaced_texts.front_in_place.Goals as goal

pub returns-in-Characters-clause-spaced : goal.returns-in-Characters-clause-spaced
returns-in-Characters-clause-spaced c =
    chars_in_place c.args.spacing.now c.args.text.now _ _ c.utf8.text c.first_chars.ensures.front c.first_chars.ensures.count ∙ ap (λ m. spaced m c.args.spacing.now c.args.text.now) (sym c.in-Characters.is)

pub returns-in-Columns-clause-within : goal.returns-in-Columns-clause-within
returns-in-Columns-clause-within c = omega (arith, c.first_columns.ensures.count, front_fits c.args.spacing.now.width (chars c.args.text.now))

use Rattle.std.proofs.Common.{◌∷◌, ◌∙◌, sym, ap, chars, length}
use Rattle.std.proofs.lemmas.Str.{chars_past_char}
use Rattle.std.proofs.StrCases.{chars_of_empty}
use Rattle.mad_plain.proofs.fronts.cut_first.Goals as goal

pub returns-in-Some-clause-cases : goal.returns-in-Some-clause-cases
returns-in-Some-clause-cases c =
    chars_past_char _ _ c.in-Some.c c.utf8.text (sym c.chars-rest.ensures.rest ∙ c.in-Some.ensures.steps.0) ∙ ap (λ bs. c.in-Some.c ∷ chars bs) (sym c.as_str.ensures)

pub returns-in-None-clause-cases : goal.returns-in-None-clause-cases
returns-in-None-clause-cases c = chars_of_empty _ (ap length (sym c.chars-rest.ensures.rest) ∙ c.in-None.ensures.steps.0.0)

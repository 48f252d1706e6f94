use Rattle.std.proofs.Common.{refl, ◌∙◌}
use Rattle.std.proofs.lemmas.Result.{IfErr-weaker, IfOk-weaker}
use Rattle.mad_patterns.proofs.ReadingLemmas.{of_text, refused, right_kind, under}
use Rattle.mad_patterns.proofs.readings.built.Goals as goal

pub returns-clause-source : goal.returns-clause-source
returns-clause-source c =
    IfOk-weaker c.build.result _ _ (λ r h. h ∙ of_text c.new.result c.case_insensitive.result c.args.text.now _ c.new.ensures.source c.case_insensitive.ensures) c.build.ensures.source

pub returns-clause-under : goal.returns-clause-under
returns-clause-under c =
    IfOk-weaker c.build.result _ _ (λ r h. h ∙ under c.new.result c.case_insensitive.result c.args.text.now _ _ c.new.ensures.config c.case_insensitive.ensures refl c.has_capital.ensures) c.build.ensures.config

pub returns-clause-refused : goal.returns-clause-refused
returns-clause-refused c =
    IfErr-weaker c.build.result _ _
    (λ e h.
    refused _ _ c.args.text.now e (under c.new.result c.case_insensitive.result c.args.text.now _ _ c.new.ensures.config c.case_insensitive.ensures refl c.has_capital.ensures)
    (of_text c.new.result c.case_insensitive.result c.args.text.now _ c.new.ensures.source c.case_insensitive.ensures) h)
    c.build.ensures.by_grammar

pub returns-clause-right : goal.returns-clause-right
returns-clause-right c =
    IfErr-weaker c.build.result _ _
    (λ e h.
    right_kind _ _ c.args.text.now e (under c.new.result c.case_insensitive.result c.args.text.now _ _ c.new.ensures.config c.case_insensitive.ensures refl c.has_capital.ensures)
    (of_text c.new.result c.case_insensitive.result c.args.text.now _ c.new.ensures.source c.case_insensitive.ensures) h)
    c.build.ensures.kind

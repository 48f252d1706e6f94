use Rattle.std.proofs.Common.{ℕ, List, ap, ◌∙◌}
use Rattle.code_names.specs.Names.{LanguageName, language_names, named_among}
use Rattle.code_names.proofs.names.language_of.Goals as goal

pub loop-rest-init : goal.loop-rest-init
loop-rest-init c =
    ap (λ (ns : List LanguageName). named_among ns c.word_onward-word.result.now) c.names-rest.ensures ∙ ap (λ (word : List ℕ). named_among language_names word) c.word_onward-word.ensures

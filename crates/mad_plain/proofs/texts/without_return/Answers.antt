use Rattle.std.proofs.Common.{lit<, ap, ◌∙◌}
use Rattle.std.proofs.lemmas.Str.Pattern.{strip_suffix_char}
use Rattle.mad_md.proofs.PartsLemmas.{stripped}
use Rattle.mad_plain.proofs.texts.without_return.Goals as goal

pub returns : goal.returns
returns c = ap (λ x. x.now) c.unwrap_or.ensures ∙ stripped c.args.part c.strip_suffix.result (strip_suffix_char 13 _ _ c.strip_suffix.ensures.cases (lit< tt))

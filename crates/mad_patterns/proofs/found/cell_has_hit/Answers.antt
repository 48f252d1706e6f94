use Rattle.std.proofs.Common.{ℕ, List, ap, length, nat_lt, not, ◌∙◌}
use Rattle.regex.specs.Strings.{regex_pattern}
use Rattle.mad_patterns.specs.Searches.{hits}
use Rattle.mad_patterns.proofs.FoundLemmas.{some_hit}
use Rattle.mad_patterns.proofs.found.cell_has_hit.Goals as goal

pub returns-clause-has : goal.returns-clause-has
returns-clause-has c =
    ap not c.is_empty.ensures
    ∙ (some_hit _
    ∙ ap (λ (l : List (ℕ × ℕ)). nat_lt 0 (length l)) (c.as_slice.ensures.value ∙ (c.in_ok-found.ensures.hits ∙ ap (hits (regex_pattern c.args.sought.now)) (c.as_str.ensures.value ∙ c.in_ok-text.ensures))))

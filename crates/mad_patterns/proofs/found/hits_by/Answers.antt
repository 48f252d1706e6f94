use Rattle.std.proofs.Common.{ap, is_some, sym, ◌∙◌}
use Rattle.regex.specs.Patterns.{Re, find_str}
use Rattle.regex.specs.Strings.{regex_pattern}
use Rattle.mad_patterns.proofs.FoundLemmas.{no_hit}
use Rattle.mad_patterns.proofs.found.hits_by.Goals as goal

pub returns-then-not-is_match-clause-hits : goal.returns-then-not-is_match-clause-hits
returns-then-not-is_match-clause-hits c =
    c.new.ensures.items
    ∙ sym (no_hit (regex_pattern c.args.sought.now) c.args.text.now c.is_match.result (c.is_match.ensures.found ∙ ap (λ (re : Re). is_some (find_str re c.args.text.now 0)) c.requires) c.if-not-is_match.true)

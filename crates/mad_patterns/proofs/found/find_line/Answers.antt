use Rattle.regex.specs.Strings.{regex_pattern}
use Rattle.mad_patterns.proofs.FoundLemmas.{line_found}
use Rattle.mad_patterns.proofs.found.find_line.Goals as goal

pub returns-clause-found : goal.returns-clause-found
returns-clause-found c =
    let it =
    line_found (regex_pattern c.args.sought.now) c.args.lines.now c.rows_between.result.now c.args.start c.args.end c.as_str.result.now _ _ _ c.rows_between.ensures c.in_ok-text.ensures.text c.as_str.ensures.value c.in_ok-text.ensures.places
    c.in_ok-hits.ensures.hits in
    record { places = it.0; hits = it.1 }

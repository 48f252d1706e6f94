use Rattle.std.proofs.Common.{◌≡◌}
use Rattle.regex.specs.Strings.{matcher_pattern, regex_pattern}
use Rattle.mad_patterns.specs.Searches.{IsKnown, NoneBetween}
use Rattle.mad_patterns.proofs.search.first_row.Given as goal

abbrev pub invariant-loop-row : goal.invariant-loop-row
invariant-loop-row l = record {
  same : matcher_pattern l.matcher ≡ regex_pattern l.sought;
  known : IsKnown (regex_pattern l.sought) l.lines l.known;
  none : NoneBetween (regex_pattern l.sought) l.lines l.starts.rows.now l.from l.row;
}

use Rattle.std.proofs.Common.{◌≡◌, ◌≤◌, length}
use Rattle.regex.specs.Strings.{matcher_pattern, regex_pattern}
use Rattle.mad_patterns.specs.Searches.{IsKnown, NoneBetween}
use Rattle.mad_patterns.proofs.search.last_row.Given as goal

abbrev pub invariant-rows : goal.invariant-rows
invariant-rows l = record {
  inside : l.row ≤ length l.lines;
  before : l.row ≤ l.end;
  same : matcher_pattern l.matcher ≡ regex_pattern l.sought;
  known : IsKnown (regex_pattern l.sought) l.lines l.known;
  none : NoneBetween (regex_pattern l.sought) l.lines l.starts.rows.now l.row l.end;
}

abbrev pub decreases-rows : goal.decreases-rows
decreases-rows l = l.row

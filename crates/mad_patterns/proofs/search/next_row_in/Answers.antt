use Rattle.regex.specs.Strings.{regex_pattern}
use Rattle.mad_patterns.proofs.SearchLemmas.{next_here, next_around}
use Rattle.mad_patterns.proofs.search.next_row_in.Goals as goal

pub returns-in-Some : goal.returns-in-Some
returns-in-Some c = next_here (regex_pattern c.args.sought.now) c.args.lines.now c.args.starts.now c.args.from c.in-Some.found (rw c.looked_over-starts.ensures at (rw c.in-Some.is at c.in_ok-after.ensures))

pub returns : goal.returns
returns c =
    next_around (regex_pattern c.args.sought.now) c.args.lines.now c.args.starts.now c.args.from c.in_ok-around.around (rw c.looked_over-starts.ensures at (rw c.in_default.is at c.in_ok-after.ensures)) (rw c.looked_over-starts.ensures at c.in_ok-around.ensures)

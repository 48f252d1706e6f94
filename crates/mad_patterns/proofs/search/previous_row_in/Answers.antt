use Rattle.std.proofs.Common.{rules}
use Rattle.regex.specs.Strings.{regex_pattern}
use Rattle.mad_patterns.proofs.SearchLemmas.{previous_here, previous_around}
use Rattle.mad_patterns.proofs.search.previous_row_in.Goals as goal

pub returns-in-Some : goal.returns-in-Some
returns-in-Some c = previous_here (regex_pattern c.args.sought.now) c.args.lines.now c.args.starts.now c.args.end _ c.in-Some.found (search rules) (rw c.looked_over-starts.ensures at (rw c.in-Some.is at c.in_ok-before.ensures))

pub returns : goal.returns
returns c =
    previous_around (regex_pattern c.args.sought.now) c.args.lines.now c.args.starts.now c.args.end _ c.in_ok-around.around (search rules) (rw c.looked_over-starts.ensures at (rw c.in_default.is at c.in_ok-before.ensures)) (rw c.looked_over-starts.ensures at c.in_ok-around.ensures)

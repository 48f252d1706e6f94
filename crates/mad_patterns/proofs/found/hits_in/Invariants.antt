use Rattle.std.proofs.Common.{◌≡◌, map}
use Rattle.std.specs.List.{filter}
use Rattle.regex.specs.Strings.{match_span}
use Rattle.mad_patterns.specs.Searches.{has_bytes}
use Rattle.mad_patterns.proofs.found.hits_in.Given as goal

-- the matches so far
abbrev pub invariant-loop-hit : goal.invariant-loop-hit
invariant-loop-hit l = l.found.items ≡ filter has_bytes (map match_span l.yielded)

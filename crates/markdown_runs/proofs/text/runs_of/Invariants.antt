use Rattle.std.proofs.Common.{◌≡◌}
use Rattle.std.specs.List.{filter_map, range_with_len}
use Rattle.markdown_runs.specs.Texts.{marks_at}
use Rattle.markdown_runs.proofs.text.runs_of.Given as goal

abbrev pub invariant-loop-start : goal.invariant-loop-start
invariant-loop-start l = l.runs.items ≡ filter_map (marks_at l.chars) (range_with_len 0 l.start)

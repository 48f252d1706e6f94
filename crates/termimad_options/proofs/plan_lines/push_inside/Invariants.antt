use Rattle.std.proofs.Common.{◌≡◌, ◌++◌, string_bytes}
use Rattle.std.specs.List.{flat_map}
use Rattle.termimad_options.specs.PlanLines.{quoted_char}
use Rattle.termimad_options.proofs.plan_lines.push_inside.Given as goal

-- the characters so far, between the quotes
abbrev pub invariant-loop-c : goal.invariant-loop-c
invariant-loop-c l = string_bytes l.line ≡ string_bytes l.fn.line ++ flat_map quoted_char l.yielded

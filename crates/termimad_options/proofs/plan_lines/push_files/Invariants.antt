use Rattle.std.proofs.Common.{◌≡◌, ◌++◌, drop, map, option_map, string_bytes}
use Rattle.termimad_options.specs.Calls.{reading_of}
use Rattle.termimad_options.specs.PlanLines.{files_bytes}
use Rattle.termimad_options.proofs.plan_lines.push_files.Given as goal

abbrev pub invariant-loop-name : goal.invariant-loop-name
invariant-loop-name l =
    string_bytes l.line ++ files_bytes (option_map reading_of l.fn.said) (map (λ name. name.now) (drop l.name-index l.fn.names))
    ≡ string_bytes l.fn.line ++ files_bytes (option_map reading_of l.fn.said) (map (λ name. name.now) l.fn.names)

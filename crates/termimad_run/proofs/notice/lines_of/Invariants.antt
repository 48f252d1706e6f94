use Rattle.std.proofs.Common.{◌≡◌, ◌++◌, map, drop, string_bytes}
use Rattle.termimad_run.specs.UnknownKeys.{key_lines}
use Rattle.termimad_run.proofs.notice.lines_of.Given as goal

-- what was written, and the lines of the keys that are left
abbrev pub invariant-loop-key : goal.invariant-loop-key
invariant-loop-key l = string_bytes l.lines ++ key_lines (map string_bytes (drop l.key-index l.keys)) ≡ key_lines (map string_bytes l.keys)

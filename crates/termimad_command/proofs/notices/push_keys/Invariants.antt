use Rattle.std.proofs.Common.{◌≡◌, ◌++◌, drop, map, string_bytes}
use Rattle.termimad_command.specs.Notices.{key_lines}
use Rattle.termimad_command.proofs.notices.push_keys.Given as goal

-- the lines so far, and those of the keys that are left
abbrev pub invariant-loop-key : goal.invariant-loop-key
invariant-loop-key l =
    string_bytes l.lines ++ key_lines (map string_bytes (drop l.key-index l.fn.keys)) ≡ string_bytes l.fn.lines ++ key_lines (map string_bytes l.fn.keys)

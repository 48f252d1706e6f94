use Rattle.std.proofs.Common.{◌≡◌, map}
use Rattle.std.specs.Prelude.{encode_utf8_all, string_bytes}
use Rattle.termimad_page_run.specs.Runs.{row_char}
use Rattle.termimad_page_run.proofs.program.name_row.Given as goal

-- the characters so far, as they are shown
abbrev pub invariant-loop-c : goal.invariant-loop-c
invariant-loop-c l = string_bytes l.row ≡ encode_utf8_all (map row_char l.yielded)

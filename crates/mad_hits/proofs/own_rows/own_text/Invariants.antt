use Rattle.std.proofs.Common.{◌≡◌, ◌++◌, drop, string_bytes}
use Rattle.std.specs.List.{flat_map}
use Rattle.mad_hits.specs.OwnRows.{char_bytes, own_text}
use Rattle.mad_hits.proofs.own_rows.own_text.Given as goal

-- what was put, and what is left, are the whole
abbrev pub invariant-loop-c : goal.invariant-loop-c
invariant-loop-c l = string_bytes l.text ++ flat_map char_bytes (drop l.c-index l.row) ≡ own_text l.row

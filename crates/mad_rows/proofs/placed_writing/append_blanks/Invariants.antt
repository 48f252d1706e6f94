use Rattle.std.proofs.Common.{◌≡◌, ◌++◌, replicate, string_bytes}
use Rattle.mad_rows.proofs.placed_writing.append_blanks.Given as goal

abbrev pub invariant-loop-done : goal.invariant-loop-done
invariant-loop-done l = string_bytes l.rows ≡ string_bytes l.fn.rows ++ replicate l._done 32

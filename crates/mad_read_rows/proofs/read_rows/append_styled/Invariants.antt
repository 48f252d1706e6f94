use Rattle.std.proofs.Common.{◌-◌, length, string_bytes}
use Rattle.std.specs.Str.{IsCharBoundary}
use Rattle.mad_wrap.specs.Writings.{WritesUpTo}
use Rattle.mad_read_rows.specs.ReadRows.{token_bytes}
use Rattle.mad_read_rows.proofs.read_rows.append_styled.Given as goal

abbrev pub invariant-loop-at : goal.invariant-loop-at
invariant-loop-at l = record {
  border : IsCharBoundary l.compound.src.now l.at;
  written : WritesUpTo (token_bytes l.skin l.style) l.later l.max l.compound l.at l.fn.fit (string_bytes l.fn.rows) l.fit (string_bytes l.rows);
}

abbrev pub decreases-loop-at : goal.decreases-loop-at
decreases-loop-at l = length l.compound.src.now - l.at

use Rattle.std.proofs.Common.{◌≡◌, ◌+◌, drop}
use Rattle.mad_measure.specs.TokenPositions.{bytes_of}
use Rattle.mad_wrap.specs.WrapLines.{capped}
use Rattle.mad_read_rows.proofs.read_rows.are_short.Given as goal

abbrev pub invariant-loop-compound : goal.invariant-loop-compound
invariant-loop-compound l = capped (l.bytes + bytes_of (drop l.compound-index l.compounds)) ≡ capped (bytes_of l.compounds)

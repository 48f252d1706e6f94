use Rattle.std.proofs.Common.{◌≡◌, ◌+◌, ◌-◌, ◌≤◌, length, drop, Some, true, false}
use Rattle.markdown_pieces.specs.Pieces.{ends_line, plain_from}
use Rattle.markdown_pieces.proofs.pieces.plain_len.Given as goal

abbrev pub invariant-loop-len : goal.invariant-loop-len
invariant-loop-len l = record {
  so_far : l.len + plain_from l.free (Some l.last) (drop l.len l.bytes) ≡ plain_from l.free (Some l.before) l.bytes;
  few : l.len ≤ length l.bytes;
  inside : l.inside ≡ true → ends_line (drop l.len l.bytes) ≡ false;
}

abbrev pub decreases-loop-len : goal.decreases-loop-len
decreases-loop-len l = length l.bytes - l.len

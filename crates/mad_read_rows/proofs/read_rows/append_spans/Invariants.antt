use Rattle.std.proofs.Common.{ℕ, ◌≤◌, ◌-◌, List, length, string_bytes}
use Rattle.std.specs.Str.{IsCharBoundary}
use Rattle.mad_measure.specs.Chunks.{ArePlain}
use Rattle.mad_measure.specs.declared.tokens.Token.{Token}
use Rattle.mad_wrap.specs.Writings.{IsWrittenBare, WritesUpTo}
use Rattle.mad_read_rows.proofs.read_rows.append_spans.Given as goal

abbrev pub invariant-loop-at : goal.invariant-loop-at
invariant-loop-at l = record {
  border : IsCharBoundary l.compound.src.now l.at;
  plain : ArePlain l.compound.src.now l.at l.plain;
  inside : l.plain ≤ length l.compound.src.now;
  written : (write : Token → List ℕ) → IsWrittenBare write l.compound → WritesUpTo write l.later l.max l.compound l.at l.fn.fit (string_bytes l.fn.rows) l.fit (string_bytes l.rows);
}

abbrev pub decreases-loop-at : goal.decreases-loop-at
decreases-loop-at l = length l.compound.src.now - l.at

use Rattle.std.proofs.Common.{◌≡◌, ℕ, ◌≤◌, ◌<◌, get_or, true}
use Rattle.markdown_marks.specs.Bytes.{is_blank_byte}
use Rattle.markdown_pieces.proofs.scan.without_blanks_before.Given as goal

abbrev pub invariant-loop-end : goal.invariant-loop-end
invariant-loop-end l = record {
  few : l.end ≤ l.at;
  blanks : (k : ℕ) → l.end ≤ k → k < l.at → is_blank_byte (get_or l.bytes k 0) ≡ true;
}

abbrev pub decreases-loop-end : goal.decreases-loop-end
decreases-loop-end l = l.end

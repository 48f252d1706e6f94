use Rattle.std.proofs.Common.{◌≡◌, ◌≤◌, ◌-◌, drop, length}
use Rattle.markdown_brackets.specs.Brackets.{nothing_read}
use Rattle.markdown_brackets.specs.Readings.{reading_of, IsTidy}
use Rattle.markdown_pieces.specs.Cut.{cut_from}
use Rattle.markdown_pieces.proofs.CutLemmas.{with_front}
use Rattle.markdown_pieces.proofs.cut.cut_text.Given as goal

abbrev pub invariant-loop-at : goal.invariant-loop-at
invariant-loop-at l = record {
  same : with_front l.pieces.items (cut_from l.labels l.text 0 l.at (length l.pieces.items) (reading_of l.brackets) (drop l.at l.text)) ≡ cut_from l.labels l.text 0 0 0 nothing_read l.text;
  within : l.at ≤ length l.text;
  tidy : IsTidy l.brackets;
}

abbrev pub decreases-loop-at : goal.decreases-loop-at
decreases-loop-at l = length l.text - l.at

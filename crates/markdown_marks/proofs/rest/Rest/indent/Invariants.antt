use Rattle.std.proofs.Common.{◌≡◌, ◌≤◌, ◌+◌, ◌-◌}
use Rattle.markdown_marks.specs.Remaining.{remaining, take_columns, columns_in_front}
use Rattle.markdown_marks.proofs.rest.Rest.indent.Given as goal

abbrev pub invariant-loop-columns : goal.invariant-loop-columns
invariant-loop-columns l = record {
  counted : l.columns + columns_in_front (l.most - l.columns) (remaining l.rest) ≡ columns_in_front l.most (remaining l.self);
  left : take_columns (l.most - l.columns) (remaining l.rest) ≡ take_columns l.most (remaining l.self);
  few : l.columns ≤ l.most;
}

abbrev pub decreases-loop-columns : goal.decreases-loop-columns
decreases-loop-columns l = l.most - l.columns

use Rattle.std.proofs.Common.{◌<◌}
use Rattle.std.specs.Prelude.{IfSome}
use Rattle.mad_frames.specs.Scrolling.{count_of}
use Rattle.mad_frames.proofs.matching.best_scroll.Given as goal

abbrev pub invariant-loop-count : goal.invariant-loop-count
invariant-loop-count l = record {
  some : IfSome l.best (λ s. 0 < count_of s);
  fewer : IfSome l.best (λ s. count_of s < l.rows);
}

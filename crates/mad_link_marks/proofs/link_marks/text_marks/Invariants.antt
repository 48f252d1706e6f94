use Rattle.std.proofs.Common.{◌≡◌, ◌-◌, ◌++◌, map, drop, length}
use Rattle.mad_mark_runs.specs.Values.{AreRising, end_from}
use Rattle.mad_link_marks.specs.LinkMarks.{marks_behind}
use Rattle.mad_link_marks.proofs.link_marks.text_marks.Given as goal

abbrev pub invariant-loop-index : goal.invariant-loop-index
invariant-loop-index l = record {
  rising : AreRising 0 l.marks.items;
  so_far : l.marks.items ++ marks_behind (end_from 0 l.marks.items) (drop l.index l.numbers) (map (λ t. t.now) (drop l.index l.texts)) ≡ marks_behind 0 l.numbers (map (λ t. t.now) l.texts);
}

abbrev pub decreases-loop-index : goal.decreases-loop-index
decreases-loop-index l = length l.numbers - l.index

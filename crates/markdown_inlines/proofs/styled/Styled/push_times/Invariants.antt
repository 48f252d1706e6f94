use Rattle.std.proofs.Common.{◌≡◌, ◌++◌, map, replicate}
use Rattle.markdown_inlines.specs.Styled.{shown_with, spelled_of, IsStyled}
use Rattle.markdown_inlines.proofs.styled.Styled.push_times.Given as goal

abbrev pub invariant-loop-left : goal.invariant-loop-left
invariant-loop-left l = record {
  so_far : spelled_of l.self ++ map (shown_with l.look) (replicate l.left l.c) ≡ spelled_of l.fn.self ++ map (shown_with l.look) (replicate l.times l.c);
  styled : IsStyled l.self;
}

abbrev pub decreases-loop-left : goal.decreases-loop-left
decreases-loop-left l = l.left

use Rattle.std.proofs.Common.{◌≡◌, map, length}
use Rattle.markdown_leaves.specs.Parts.{part_of}
use Rattle.markdown_stream.specs.ShowingOf.{streamed_of}
use Rattle.markdown_stream.specs.Streamed.{parts_streamed}
use Rattle.markdown_stream.proofs.showing.Showing.show_all.Given as goal

abbrev pub invariant-loop-rest : goal.invariant-loop-rest
invariant-loop-rest l = parts_streamed (map part_of l.rest) (streamed_of l.self) ≡ parts_streamed (map part_of l.parts) (streamed_of l.fn.self)

abbrev pub decreases-loop-rest : goal.decreases-loop-rest
decreases-loop-rest l = length l.rest

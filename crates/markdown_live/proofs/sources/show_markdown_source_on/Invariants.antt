use Rattle.std.proofs.Common.{◌≡◌, ◌≤◌, length, take}
use Rattle.markdown_live.proofs.SourceLemmas.{LiveSoFar}
use Rattle.markdown_live.proofs.sources.show_markdown_source_on.Given as goal

abbrev pub invariant-loop-block : goal.invariant-loop-block
invariant-loop-block g l = record {
  few : l.waiting ≤ 3;
  size : length l.block ≡ 16384;
  so_far : LiveSoFar l.fn.skin l.fn.width l.fn.height (g.I.Source.seen l.fn.input) (g.O.Out.seen l.fn.out) l.live (take l.waiting l.block) l._block (g.I.Source.seen l.input) (g.O.Out.seen l.out);
}

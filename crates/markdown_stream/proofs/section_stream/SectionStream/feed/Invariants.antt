use Rattle.std.proofs.Common.{length}
use denote.Text.{Utf8}
use denote.Shadow.{shadow}
use Rattle.markdown_stream.proofs.ComeLemmas.{TakenSoFar}
use Rattle.markdown_stream.proofs.section_stream.SectionStream.feed.Given as goal

abbrev pub invariant-loop-line : goal.invariant-loop-line
invariant-loop-line l = record {
  utf8 : shadow (Utf8 l.rest);
  so_far : TakenSoFar l.fn.text l.rest l.fn.self l.self;
}

abbrev pub decreases-loop-line : goal.decreases-loop-line
decreases-loop-line l = length l.rest

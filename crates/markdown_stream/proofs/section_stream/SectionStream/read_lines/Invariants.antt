use Rattle.std.proofs.Common.{◌≡◌, length}
use Rattle.markdown_blocks.specs.Lines.{text_lines}
use Rattle.markdown_stream.specs.Held.{streaming_of}
use Rattle.markdown_stream.specs.Streaming.{lines_come, text_come}
use Rattle.markdown_stream.proofs.section_stream.SectionStream.read_lines.Given as goal

abbrev pub invariant-loop-rest : goal.invariant-loop-rest
invariant-loop-rest l = record {
  come : lines_come (text_lines l.rest) (streaming_of l.self) ≡ text_come l.text (streaming_of l.fn.self);
  line : l.self.line ≡ l.fn.self.line;
}

abbrev pub decreases-loop-rest : goal.decreases-loop-rest
decreases-loop-rest l = length l.rest

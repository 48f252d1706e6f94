-- Lines of the open leaf, which own their bytes, and a text of which lines were read.
use Rattle.std.specs.Prelude.{false, [], map, reverse}
use Rattle.markdown_marks.specs.Remaining.{Remaining}
use Rattle.markdown_blocks.specs.Steps.{state_of}
use Rattle.markdown_leaves.specs.Gather.{Gathering}
use Rattle.markdown_stream.specs.Readings.{Reading}
use Rattle.markdown_stream.specs.ShowingOf.{streamed_of}
use Rattle.markdown_stream.specs.Streaming.{Streaming}
use Rattle.markdown_stream.specs.declared.open_leaf.HeldLine.{HeldLine}
use Rattle.markdown_stream.specs.declared.open_leaf.OpenLeaf.{OpenLeaf}
use Rattle.markdown_stream.specs.declared.section_stream.SectionStream.{SectionStream}

-- what a line says
abbrev pub line_held : HeldLine → Remaining
line_held line = record { column = line.column; pending = line.pending; bytes = line.bytes.items }

-- what is gathered of the open leaf
abbrev pub gathering_held : OpenLeaf → Gathering
gathering_held leaf = record {
  parts = [];
  kind = leaf.kind;
  apart = leaf.apart;
  lines = map line_held leaf.lines.items;
  passed = leaf.passed;
  fresh = false;
  around = reverse leaf.around.items;
}

-- what is open between two lines, and what the next sections depend on
abbrev pub streaming_of : SectionStream → Streaming
streaming_of s = record { reading = record { state = state_of s.reader; gathering = gathering_held s.leaf }; streamed = streamed_of s.showing }

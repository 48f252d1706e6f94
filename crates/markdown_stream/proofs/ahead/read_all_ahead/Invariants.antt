use Rattle.std.proofs.Common.{◌≡◌, length}
use Rattle.markdown_blocks.specs.Lines.{text_lines}
use Rattle.markdown_stream.specs.OpenSections.{reading_of}
use Rattle.markdown_stream.specs.Readings.{lines_read}
use Rattle.markdown_stream.proofs.ahead.read_all_ahead.Given as goal

abbrev pub invariant-loop-rest : goal.invariant-loop-rest
invariant-loop-rest l = lines_read (reading_of l.reader l.gatherer) (text_lines l.rest) ≡ lines_read (reading_of l.fn.reader l.fn.gatherer) (text_lines l.text)

abbrev pub decreases-loop-rest : goal.decreases-loop-rest
decreases-loop-rest l = length l.rest

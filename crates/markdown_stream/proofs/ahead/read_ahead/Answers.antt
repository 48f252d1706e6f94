use Rattle.std.proofs.Common.{List, length, ap}
use Rattle.markdown_blocks.specs.Steps.{Step, state_of, line_of}
use Rattle.markdown_blocks.specs.declared.containers.Container.{Container}
use Rattle.markdown_leaves.specs.Gather.{Gathering}
use Rattle.markdown_stream.specs.OpenSections.{reading_of}
use Rattle.markdown_stream.specs.Readings.{Reading}
use Rattle.markdown_stream.proofs.OpenLemmas.{line_ahead}
use Rattle.markdown_stream.proofs.ahead.read_ahead.Goals as goal

pub returns : goal.returns
returns c =
    let done : Step = record { state = state_of c.read_line.new.self; line = line_of c.in_ok-read.read } in
    line_ahead (reading_of c.args.reader.now c.args.gatherer.now) (reading_of c.read_line.new.self c.read.new.self) c.args.line.now done (length c.containers-before.result.now) c.containers.result.now c.in_ok-read.ensures.ok
    (ap (λ (cs : List Container). length cs) c.containers-before.ensures) c.containers.ensures
    (ap (λ (g : Gathering). let n : Reading = record { state = done.state; gathering = g } in n) c.in_ok-read-2.ensures)

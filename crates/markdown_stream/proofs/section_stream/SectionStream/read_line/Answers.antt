use Rattle.std.proofs.Common.{◌≡◌, true, List, length, refl, sym, ap, ◌∙◌}
use Rattle.markdown_blocks.specs.Steps.{Step, state_of, line_of}
use Rattle.markdown_blocks.specs.declared.containers.Container.{Container}
use Rattle.markdown_stream.specs.Held.{gathering_held, streaming_of}
use Rattle.markdown_stream.specs.Streaming.{Streaming, goes_on}
use Rattle.markdown_stream.proofs.GatheredLemmas.{line_gathered, text_comes}
use Rattle.markdown_stream.proofs.section_stream.SectionStream.read_line.Goals as goal

pub returns-then-goes_on-clause-come : goal.returns-then-goes_on-clause-come
returns-then-goes_on-clause-come c =
    let s : Streaming = streaming_of c.args.self.now in
    let read = line_of c.in_ok-read.read in
    let done : Step = record { state = state_of c.read_line.new.self; line = read } in
    let before = length c.containers-before.result.now in
    let mid : Streaming = record s { reading = record s.reading { state = done.state } } in
    let test : goes_on before read ≡ true = sym c.goes_on.ensures ∙ c.if-goes_on.true in
    line_gathered s (record s { reading = record { state = done.state; gathering = gathering_held c.push.new.self } }) c.args.line.now done before c.in_ok-read.ensures.ok
    (ap (λ (cs : List Container). length cs) c.containers-before.ensures)
    (text_comes mid before read (gathering_held c.push.new.self) test c.in_ok-read.ensures.placed.counted refl refl c.in_ok-push.ensures)

pub returns-clause-come : goal.returns-clause-come
returns-clause-come c =
    let done : Step = record { state = state_of c.read_line.new.self; line = line_of c.in_ok-read.read } in
    line_gathered (streaming_of c.args.self.now) (streaming_of c.gather.new.self) c.args.line.now done (length c.containers-before.result.now) c.in_ok-read.ensures.ok
    (ap (λ (cs : List Container). length cs) c.containers-before.ensures) c.in_ok-gather.ensures.come

use Rattle.std.proofs.Common.{◌≡◌, List, map, ap, ◌∙◌}
use Rattle.markdown_blocks.specs.Steps.{state_of, line_of}
use Rattle.markdown_blocks.specs.declared.containers.Container.{Container}
use Rattle.markdown_leaves.specs.Gather.{Gathering, gathering_of}
use Rattle.markdown_leaves.specs.Parts.{part_of}
use Rattle.markdown_leaves.specs.Told.{told, events_between}
use Rattle.markdown_leaves.specs.declared.parts.Part.{Part}
use Rattle.markdown_stream.specs.Held.{gathering_held, streaming_of}
use Rattle.markdown_stream.specs.ShowingOf.{streamed_of}
use Rattle.markdown_stream.specs.Streamed.{parts_streamed}
use Rattle.markdown_stream.proofs.GatheredLemmas.{fresh_after, gathers}
use Rattle.markdown_stream.proofs.section_stream.SectionStream.gather.Goals as goal

pub of-requires : goal.of-requires
of-requires c =
    fresh_after (gathering_of c.in_ok-gatherer.gatherer) (gathering_of c.read.new.self) c.args.before (line_of c.args.read) c.containers.result.now c.in_ok-read.ensures

pub returns-clause-come : goal.returns-clause-come
returns-clause-come c =
    let read = line_of c.args.read in
    let leaf = gathering_held c.args.self.now.leaf in
    let all = (state_of c.args.self.now.reader).containers in
    let told_is : gathering_of c.read.new.self ≡ told leaf (events_between c.args.before read all) =
    c.in_ok-read.ensures ∙ ap (λ (g : Gathering). told g (events_between c.args.before read c.containers.result.now)) c.in_ok-gatherer.ensures
    ∙ ap (λ (cs : List Container). told leaf (events_between c.args.before read cs)) c.containers.ensures in
    gathers (streaming_of c.args.self.now) (gathering_of c.read.new.self) (gathering_held c.in_ok-leaf.leaf) (streamed_of c.show_all.new.self) c.args.before read told_is c.in_ok-leaf.ensures
    (c.in_ok-show_all.ensures ∙ ap (λ (ps : List Part). parts_streamed (map part_of ps) (streamed_of c.args.self.now.showing)) c.deref.ensures.value)

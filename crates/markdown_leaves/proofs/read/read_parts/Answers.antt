use Rattle.std.proofs.Common.{◌∙◌, sym, ap, subst, length, map, Option, Some, None, List}
use Rattle.markdown_blocks.specs.Events.{unread, events_of, leaves, IsRead}
use Rattle.markdown_blocks.specs.Steps.{line_of}
use Rattle.markdown_blocks.specs.declared.containers.Container.{Container}
use Rattle.markdown_blocks.specs.declared.reader.LineRead.{LineRead}
use Rattle.markdown_leaves.specs.Gather.{gathering_of}
use Rattle.markdown_leaves.specs.Parts.{part_of}
use Rattle.markdown_leaves.specs.Told.{told, events_between}
use Rattle.markdown_leaves.proofs.ToldLemmas.{told_read, told_end}
use Rattle.markdown_leaves.proofs.read.read_parts.Goals as goal

pub returns-in-None : goal.returns-in-None
returns-in-None c =
    let before = unread c.loop-gatherer.cursor in
    let reads : IsRead before None (unread c.next_line.new.self) = subst (λ (o : Option LineRead). IsRead before o (unread c.next_line.new.self)) c.in-None.is c.in_ok-next_line.ensures.ok in
    told_end c.args.text.now (gathering_of c.loop-gatherer.gatherer) (gathering_of c.leave_all.new.self) (gathering_of c.close.new.self) (length c.containers-before.result.now) (events_of before) (map part_of c.into_parts.result.items)
    c.loop-gatherer.invariant (reads ∙ ap (λ (cs : List Container). leaves (length cs)) (sym c.containers-before.ensures)) c.in_ok-leave_all-in-None.ensures c.in_ok-close-in-None.ensures c.into_parts.ensures

pub loop-gatherer-preserved : goal.loop-gatherer-preserved
loop-gatherer-preserved c =
    let before = unread c.loop-gatherer.cursor in
    let after = unread c.next_line.new.self in
    let reads : IsRead before (Some c.in-Some.read) after = subst (λ (o : Option LineRead). IsRead before o after) c.in-Some.is c.in_ok-next_line.ensures.ok in
    told_read (gathering_of c.loop-gatherer.gatherer) (gathering_of c.read.new.self) (length c.containers-before.result.now) before.state.containers after.state.containers
    (line_of c.in-Some.read) (events_of after) (events_of before)
    (ap (λ (cs : List Container). length cs) c.containers-before.ensures)
    (c.in_ok-read-in-Some.ensures ∙ ap (λ (cs : List Container). told (gathering_of c.loop-gatherer.gatherer) (events_between (length c.containers-before.result.now) (line_of c.in-Some.read) cs)) c.containers.ensures)
    reads.0
    ∙ c.loop-gatherer.invariant

use Rattle.std.proofs.Common.{sym}
use Rattle.markdown_blocks.specs.Events.{unread}
use Rattle.markdown_blocks.specs.Steps.{Step, state_of, line_of}
use Rattle.markdown_blocks.proofs.EventLemmas.{events_line, events_none, is_none}
use Rattle.markdown_blocks.proofs.cursor.BlockCursor.next_line.Goals as goal

pub returns-then-is_empty-clause-ok : goal.returns-then-is_empty-clause-ok
returns-then-is_empty-clause-ok c = events_none (unread c.args.self.now) (is_none c.args.self.now.rest.now (sym c.if-is_empty.ensures))

pub returns-clause-ok : goal.returns-clause-ok
returns-clause-ok c =
    let done : Step = record { state = state_of c.read_line.new.self; line = line_of c.in_ok-read.read } in (
      events_line (unread c.args.self.now) c.cut_line.result.0.now c.cut_line.result.1.now done c.cut_line.ensures.lines c.in_ok-read.ensures.ok,
      c.in_ok-read.ensures.placed,
      c.cut_line.ensures.shorter,
    )

use Rattle.mad_field_rows.specs.declared.line_rows.LineRow.{LineRow}
use Rattle.mad_field_rows.proofs.RowLemmas.{step_space}
use Rattle.mad_field_rows.proofs.line_rows.LineRow.next_space.Goals as goal

pub returns-clause-next : goal.returns-clause-next
returns-clause-next c =
    let s : LineRow = c.args.self.now in step_space s.password s.selected.0 s.selected.1 s.x s.room s.line.now s.at_end c.requires.left c.requires.room

use Rattle.std.proofs.Common.{◌≡◌, [], drop, ap, ◌∙◌}
use Rattle.mad_field_rows.specs.declared.line_rows.LineRow.{LineRow}
use Rattle.mad_field_rows.specs.RowChars.{filled_row}
use Rattle.mad_field_rows.specs.LineRows.{line_left, marked_between}
use Rattle.mad_field_rows.proofs.RowLemmas.{filled_none}
use Rattle.mad_field_rows.proofs.line_rows.LineRow.next_char.Goals as goal

pub returns-then-self-eq0-clause-none : goal.returns-then-self-eq0-clause-none
returns-then-self-eq0-clause-none c =
    let s : LineRow = c.args.self.now in
    let e : line_left s ≡ [] = ap (filled_row (marked_between s.password s.selected.0 s.selected.1 s.x (drop s.x s.line.now)) s.at_end) c.if-self-eq0.true ∙ filled_none _ s.at_end in
    (e, e)

use Rattle.std.proofs.Common.{◌∙◌}
use Rattle.std.proofs.lemmas.Result.{IfOk-weaker}
use Rattle.regex.specs.Strings.{regex_pattern}
use Rattle.mad_patterns.proofs.SearchLemmas.{in_table, in_text}
use Rattle.mad_patterns.proofs.search.line_has_hit.Goals as goal

pub returns-in-Some-clause-has : goal.returns-in-Some-clause-has
returns-in-Some-clause-has c =
    let cells = rw c.in-Some.is at c.table_cells.ensures in
    IfOk-weaker c.cells_have_hit.result _ _ (λ b h. h ∙ in_table (regex_pattern c.args.sought.now) c.args.lines.now c.args.starts.rows.now c.args.row c.args.line.now c.in-Some.cells.now cells) c.cells_have_hit.ensures.has

pub returns-in-None-clause-has : goal.returns-in-None-clause-has
returns-in-None-clause-has c =
    let none = rw c.in-None.is at c.table_cells.ensures in
    IfOk-weaker c.row_has_hit.result _ _ (λ b h. h ∙ in_text (regex_pattern c.args.sought.now) c.args.lines.now c.args.starts.rows.now c.args.row c.args.line.now none) c.row_has_hit.ensures.has

use Rattle.std.proofs.Common.{◌≡◌, List, ℕ, ap, ◌∙◌}
use Rattle.std.proofs.Output.{has_written_of_eq}
use Rattle.mad_wrap.specs.WrapLines.{capped}
use Rattle.mad_format.specs.FmtLines.{rule_columns}
use Rattle.mad_rows.proofs.PieceLemmas.{table_rule_bytes}
use Rattle.mad_rows.proofs.tables.PlacedTableRuleDisplay.fmt.Goals as goal

pub returns-clause-writes : goal.returns-clause-writes
returns-clause-writes g c = λ p ok.
    let placed = c.args.self.now in
    let rule = placed.rule.now in
    let n = rule_columns rule.widths.items in
    let columns : c.rule_columns-columns.result ≡ capped n = c.rule_columns-columns.ensures ∙ ap (λ (ws : List ℕ). capped (rule_columns ws)) c.deref.ensures.value in
    has_written_of_eq _ _ _ _ _
    (table_rule_bytes placed.skin.now placed.outer placed.filled c.spaces_beside.result.0 c.spaces_beside.result.1 rule c.rule_chars.result c.deref-2.result.now c.deref-2.ensures.value c.rule_chars.ensures
    (c.spaces_beside.ensures.left n columns) (c.spaces_beside.ensures.right n columns)) (c.write.ensures.writes p ok)

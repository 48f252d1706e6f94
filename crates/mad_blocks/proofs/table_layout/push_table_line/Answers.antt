use Rattle.std.proofs.Common.{[], ◌∷◌, map, refl}
use Rattle.mad_format.specs.declared.line.FmtLine.TheVariants.{TableRow, TableRule}
use Rattle.mad_format.proofs.WrapLemmas.{then_ok}
use Rattle.mad_blocks.proofs.TableLemmas.{other_stays}
use Rattle.mad_blocks.proofs.table_layout.push_table_line.Goals as goal

pub returns-in-TableRow : goal.returns-in-TableRow
returns-in-TableRow g c = then_ok _ _ c.push_row.result (λ laid. rw c.in-TableRow.is (map TableRow laid.0, laid.1, (laid.0, refl, laid.2))) c.push_row.ensures

pub returns-in_ok-rule-in-TableRule : goal.returns-in_ok-rule-in-TableRule
returns-in_ok-rule-in-TableRule g c =
    let rule = c.in_ok-rule-in-TableRule.rule in
    then_ok _ _ c.put_line.result (λ pushed. rw c.in-TableRule.is (TableRule rule ∷ [], pushed, (rule, refl, rw c.cell_blanks.ensures at c.in_ok-rule-in-TableRule.ensures))) c.put_line.ensures

pub returns-in_default : goal.returns-in_default
returns-in_default g c =
    then_ok _ _ c.put_line-in_default.result (λ pushed. (c.args.line ∷ [], pushed, other_stays (g.S.LineSkin.rules c.args.skin.now) c.args.columns.now c.args.position c.args.line c.in_default.not-TableRow c.in_default.not-TableRule)) c.put_line-in_default.ensures

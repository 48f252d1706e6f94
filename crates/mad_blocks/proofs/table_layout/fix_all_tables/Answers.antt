use Rattle.std.proofs.Common.{◌≡◌, [], false, sym, ap, ◌∙◌, arith}
use Rattle.std.specs.Vec.Iter.{into_iter_items}
use Rattle.std.proofs.lemmas.Grind.{common_steps}
use Rattle.mad_format.specs.FmtLines.{is_table_line}
use Rattle.mad_format.proofs.WrapLemmas.{then_ok}
use Rattle.mad_blocks.proofs.TableLemmas.{tables_start, tables_line, tables_other, tables_all}
use Rattle.mad_blocks.proofs.table_layout.fix_all_tables.Goals as goal

pub loop-line-init : goal.loop-line-init
loop-line-init g c =
    tables_start (g.S.LineSkin.rules c.args.skin.now) c.args.width c.args.lines.now.items _ _ _ c.requires c.new-table.ensures.items (c.into_iter-line-iterator.ensures.into_iter_gives.0 ∙ ap (λ v. v.items) c.replace-read.ensures.value)
    (ap (λ v. v.items) c.replace-read.ensures.after ∙ c.new.ensures.items)

pub loop-line-preserved-then-is_table_line : goal.loop-line-preserved-then-is_table_line
loop-line-preserved-then-is_table_line g c =
    tables_line (g.S.LineSkin.rules c.args.skin.now) c.args.width c.args.lines.now.items c.loop-line.table.items c.push.new.self.items (into_iter_items c.loop-line.line-iterator) (into_iter_items c.next.new.self)
    c.loop-line.lines.items c.in-Some.line c.loop-line.invariant c.in-Some.ensures.steps.0 (sym c.is_table_line.ensures ∙ c.if-is_table_line.true) c.in_ok-push.ensures.items

pub loop-line-preserved : goal.loop-line-preserved
loop-line-preserved g c =
    let own = c.in_ok-push_whole_table.ensures in
    let no_part : is_table_line c.in-Some.line ≡ false = sym c.is_table_line.ensures ∙ c.if-is_table_line.false in
    tables_other (g.S.LineSkin.rules c.args.skin.now) c.args.width c.args.lines.now.items c.loop-line.table.items c.replace-whole.result.items c.replace-whole.new.dest.items (into_iter_items c.loop-line.line-iterator) (into_iter_items c.next.new.self)
    c.loop-line.lines.items own.0 c.push_whole_table.new.lines.items c.push-in-loop-line.new.self.items c.in-Some.line
    c.loop-line.invariant c.in-Some.ensures.steps.0 no_part (ap (λ v. v.items) c.replace-whole.ensures.value) own.2 own.1 c.in_ok-push-2.ensures.items
    (ap (λ v. v.items) c.replace-whole.ensures.after ∙ c.new-in-loop-line.ensures.items)

pub returns : goal.returns
returns g c =
    let none : into_iter_items c.loop-line.line-iterator ≡ [] = grind (arith, common_steps) in
    then_ok _ _ c.push_whole_table-2.result (λ own. tables_all (g.S.LineSkin.rules c.args.skin.now) c.args.width c.args.lines.now.items c.loop-line.table.items (into_iter_items c.loop-line.line-iterator) c.loop-line.lines.items own.0 c.push_whole_table-2.new.lines.items
    none c.loop-line.invariant own.2 own.1) c.push_whole_table-2.ensures

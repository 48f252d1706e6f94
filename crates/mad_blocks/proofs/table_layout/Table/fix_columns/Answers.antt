use Rattle.std.proofs.Common.{ap, sym, ◌∙◌, subst}
use Rattle.mad_format.specs.WrappedLines.{AllMeasured}
use Rattle.mad_format.proofs.WrapLemmas.{then_ok}
use Rattle.mad_blocks.proofs.TableLemmas.{moved_table, table_fixed}
use Rattle.mad_blocks.proofs.table_layout.Table.fix_columns.Goals as goal

pub push_table-requires : goal.push_table-requires
push_table-requires g c =
    subst (AllMeasured (g.S.LineSkin.rules c.args.skin.now)) (sym (moved_table c.args.lines.now.items c.args.self.now.start c.args.self.now.height _ _ _ _ (c.into_iter-rest.ensures.rest ∙ ap (λ v. v.items) c.replace.ensures.value)
    c.in_ok-move_lines.ensures.left c.new-table.ensures.items c.in_ok-move_lines-2.ensures.moved)) c.requires.measured

pub returns-clause-lines : goal.returns-clause-lines
returns-clause-lines g c =
    then_ok _ _ c.push_rest.result (table_fixed (g.S.LineSkin.rules c.args.skin.now) c.args.self.now.nbcols c.args.width c.args.lines.now.items c.args.self.now.start c.args.self.now.height _ _ _ _ _ _ _ _ _ _
    (ap (λ v. v.items) c.replace.ensures.after ∙ c.new.ensures.items) (c.into_iter-rest.ensures.rest ∙ ap (λ v. v.items) c.replace.ensures.value) c.in_ok-move_lines.ensures.moved c.in_ok-move_lines.ensures.left
    (moved_table c.args.lines.now.items c.args.self.now.start c.args.self.now.height _ _ _ _ (c.into_iter-rest.ensures.rest ∙ ap (λ v. v.items) c.replace.ensures.value) c.in_ok-move_lines.ensures.left c.new-table.ensures.items c.in_ok-move_lines-2.ensures.moved)
    c.in_ok-move_lines-2.ensures.left c.in_ok-push_table.ensures (c.len-before.ensures ∙ c.move_lines.new.lines.ok.0) (c.len.ensures ∙ c.push_table.new.lines.ok.0)) c.push_rest.ensures

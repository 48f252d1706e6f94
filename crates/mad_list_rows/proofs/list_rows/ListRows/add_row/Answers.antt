use Rattle.std.proofs.Common.{◌∙◌, cond, Bool, ap, subst, sym}
use Rattle.mad_list_rows.specs.Answers.{IsAnswered}
use Rattle.mad_list_rows.specs.Scrolling.{bottom_scroll, scrolled_to}
use Rattle.mad_list_rows.specs.States.{ListState}
use Rattle.mad_list_rows.proofs.AddedLemmas.{added}
use Rattle.mad_list_rows.proofs.list_rows.ListRows.add_row.Goals as goal
use Rattle.mad_list_rows.proofs.list_rows.ListRows.add_row.Goals.{then-sticks, else-sticks}

pub returns-clause-added : goal.returns-clause-added
returns-clause-added g c =
    let answered = subst (λ (s : ListState g.row.T.Denot g.row.F.Denot g.row.O.Denot). IsAnswered g.F.RowFilter.answers s.filter (record { content = c.args.row; shown = c.accepts-shown.result })) c.self.view_is c.accepts-shown.ensures in
    let mid = c.put.new.self in
    let bottom = scrolled_to mid (bottom_scroll mid c.args.body) in
    added _ _ c.args.self.now mid c.if-sticks.self (record { content = c.args.row; shown = c.accepts-shown.result }) c.args.body c.sticks-sticks.result answered c.in_default.ensures.put c.in_default.ensures.others c.sticks-sticks.ensures
    (elim c.if-sticks.branch [
      | then-sticks w ↦ w.self-is ∙ w.scroll_to_bottom.ensures ∙ ap (λ (b : Bool). cond b bottom mid) (sym w.if-sticks.true)
      | else-sticks w ↦ w.self-is ∙ ap (λ (b : Bool). cond b bottom mid) (sym w.if-sticks.false)
    ])

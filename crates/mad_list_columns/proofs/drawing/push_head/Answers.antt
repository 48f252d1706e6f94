use Rattle.std.proofs.Common.{arith}
use Rattle.mad_list_columns.proofs.RowLemmas.{head_written}
use Rattle.mad_list_columns.proofs.drawing.push_head.Goals as goal

pub returns : goal.returns
returns g c =
    head_written c.args.area.now.left c.args.area.now.top c.args.area.now.height _ _ _ _ _ _ _ (omega arith) c.in_ok-push_move.ensures c.in_ok-push_titles.ensures c.in_ok-push_move-2.ensures c.in_ok-push_rule.ensures

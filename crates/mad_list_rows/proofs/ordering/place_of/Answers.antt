use Rattle.std.proofs.Common.{true, rules}
use Rattle.std.specs.Prelude.{not}
use Rattle.std.proofs.lemmas.Fn.{always_returns_same}
use Rattle.mad_list_rows.specs.declared.list_rows.ListRow.{ListRow}
use Rattle.mad_list_rows.specs.Answers.{by_content}
use Rattle.mad_list_rows.proofs.OrderLemmas.{partitioned, place_by_opposite, weak_by_content}
use Rattle.mad_list_rows.proofs.ordering.place_of.Goals as goal

pub returns-clause-placed : goal.returns-clause-placed
returns-clause-placed g c = λ lt o up.
    let row : ListRow g.row.T.Denot = record { content = c.args.content.now; shown = true } in
    place_by_opposite (λ y. lt c.args.content.now y.content) c.args.rows.now c.partition_point.result
    (c.partition_point.ensures.partitioned (λ y. not (lt c.args.content.now y.content)) (always_returns_same _ _ _ (λ a r f' k. (search (rules, o), search rules))) (partitioned (by_content lt) (weak_by_content lt o.weak) c.args.rows.now row up))

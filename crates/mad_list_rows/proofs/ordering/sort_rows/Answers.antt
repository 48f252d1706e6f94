use Rattle.std.proofs.Common.{rules}
use Rattle.std.proofs.lemmas.Fn.{always_returns_same}
use Rattle.std.proofs.lemmas.Result.{IfOk-weaker}
use Rattle.mad_list_rows.specs.Answers.{by_content}
use Rattle.mad_list_rows.proofs.OrderLemmas.{weak_by_content}
use Rattle.mad_list_rows.proofs.ordering.sort_rows.Goals as goal

pub returns-clause-sorted : goal.returns-clause-sorted
returns-clause-sorted g c =
    IfOk-weaker c.sort_by.result _ _ (λ u h. λ lt o. record {
      elements = c.sort_by.ensures.permutation;
      order = h (by_content lt) (weak_by_content lt o.weak) (always_returns_same _ _ _ (λ a r f' k. (o.answers _ _ _ (search rules), search rules)));
      ties = c.sort_by.ensures.stable (by_content lt) (weak_by_content lt o.weak) (always_returns_same _ _ _ (λ a r f' k. (o.answers _ _ _ (search rules), search rules)));
    }) c.sort_by.ensures.sorted

use Rattle.std.proofs.Common.{◌∷◌, ◌++◌, [], ℕ, List, map, set, ap, ◌∙◌}
use Rattle.std.proofs.lemmas.List.{map-set}
use Rattle.std.specs.Global.{Vec}
use Rattle.markdown_inline_events.specs.Lists.{spans_in}
use Rattle.markdown_inline_events.specs.declared.spans.Span.{Span}
use Rattle.markdown_inline_events.proofs.ListLemmas.{list_at}
use Rattle.markdown_inline_events.proofs.lists.push_at.Goals as goal

pub returns-in_ok-push-clause-pushed : goal.returns-in_ok-push-clause-pushed
returns-in_ok-push-clause-pushed c =
    let lists : List (Vec Span) = c.args.lists.now in
    let index : ℕ = c.args.index in
    map-set spans_in lists index c.push.new.self
    ∙ ap (set (map spans_in lists) index) (c.in_ok-push.ensures.items ∙ ap (λ (l : List Span). l ++ c.args.span ∷ []) (list_at lists index c.index-lists-index.result c.if-index-lists.true))

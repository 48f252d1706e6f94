use Rattle.std.proofs.Common.{◌≡◌, ℕ, true, false, not, List, ◌∷◌, ◌++◌, [], string_bytes, sym, ap, ◌∙◌}
use Rattle.std.specs.List.{list_any}
use Rattle.std.specs.Str.{bytes_eq}
use Rattle.markdown_brackets.proofs.LabelLemmas.{is_there, stays, comes, one_more, still_numbered}
use Rattle.markdown_brackets.proofs.labels.Labels.insert.Goals as goal

pub returns-then-contains_key-clause-labels : goal.returns-then-contains_key-clause-labels
returns-then-contains_key-clause-labels c =
    stays c.args.self.now (string_bytes c.args.label)
    (is_there c.self.inside.numbers c.self.invariant c.args.self.now c.self.view_is (string_bytes c.args.label) c.as_str.result.now c.as_str.ensures.value c.contains_key.result true c.contains_key.ensures c.if-contains_key.true)

pub returns-then-contains_key-clause-is_new : goal.returns-then-contains_key-clause-is_new
returns-then-contains_key-clause-is_new c =
    sym (ap not (is_there c.self.inside.numbers c.self.invariant c.args.self.now c.self.view_is (string_bytes c.args.label) c.as_str.result.now c.as_str.ensures.value c.contains_key.result true c.contains_key.ensures c.if-contains_key.true))

pub invariant_of-self-2 : goal.invariant_of-self-2
invariant_of-self-2 c =
    still_numbered c.args.label c.len-number.result c.in_ok-insert.field-0 c.self.inside.numbers c.insert.new.self c.args.self.now c.self.invariant c.self.view_is
    (is_there c.self.inside.numbers c.self.invariant c.args.self.now c.self.view_is (string_bytes c.args.label) c.as_str.result.now c.as_str.ensures.value c.contains_key.result false c.contains_key.ensures c.if-contains_key.false)
    c.len-number.ensures.len c.in_ok-insert.ensures.entries c.in_ok-insert.ensures.updates c.in_ok-insert.ensures.old c.in_ok-insert.ensures.len

pub returns-clause-labels : goal.returns-clause-labels
returns-clause-labels c =
    let fresh : list_any (bytes_eq (string_bytes c.args.label)) c.args.self.now ≡ false =
    is_there c.self.inside.numbers c.self.invariant c.args.self.now c.self.view_is (string_bytes c.args.label) c.as_str.result.now c.as_str.ensures.value c.contains_key.result false c.contains_key.ensures c.if-contains_key.false in
    one_more c.args.label c.len-number.result c.in_ok-insert.field-0 c.self.inside.numbers c.insert.new.self c.args.self.now c.self.invariant c.self.view_is fresh
    c.len-number.ensures.len c.in_ok-insert.ensures.entries c.in_ok-insert.ensures.updates c.in_ok-insert.ensures.old c.in_ok-insert.ensures.len
    ∙ ap (λ (labels : List (List ℕ)). labels ++ string_bytes c.args.label ∷ []) c.self.view_is ∙ comes c.args.self.now (string_bytes c.args.label) fresh

pub returns-clause-is_new : goal.returns-clause-is_new
returns-clause-is_new c =
    sym (ap not (is_there c.self.inside.numbers c.self.invariant c.args.self.now c.self.view_is (string_bytes c.args.label) c.as_str.result.now c.as_str.ensures.value c.contains_key.result false c.contains_key.ensures c.if-contains_key.false))

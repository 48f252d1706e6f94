use Rattle.std.proofs.Common.{ℕ, List, [], ◌∷◌, ◌++◌, map, string_bytes, option_map, sym, ap, ◌∙◌}
use Rattle.std.proofs.lemmas.List.{map-append}
use Rattle.markdown_lines.specs.LinksOf.{defined_of}
use Rattle.markdown_stream.specs.Provisional.{with_label}
use Rattle.markdown_stream.proofs.ProvisionalLemmas.{label_new, label_old}
use Rattle.markdown_stream.proofs.provisional.push_label.Goals as goal

pub returns-in_ok-push-in-Some : goal.returns-in_ok-push-in-Some
returns-in_ok-push-in-Some c =
    let old = c.args.definitions.now in
    let addresses : List (List ℕ) = map string_bytes old.addresses.items in
    label_new old.labels c.insert.new.self (string_bytes c.in-Some.label) addresses (map string_bytes c.push.new.self.items)
    (sym c.if-branch.true ∙ c.in_ok-insert-in-Some.ensures.is_new) c.in_ok-insert-in-Some.ensures.labels
    (ap (map string_bytes) c.in_ok-push-in-Some.ensures.items ∙ map-append string_bytes old.addresses.items (c.new.result ∷ []) ∙ ap (λ (a : List ℕ). addresses ++ a ∷ []) c.new.ensures.bytes)
    ∙ ap (with_label (defined_of old)) (ap (option_map string_bytes) (sym c.in-Some.is) ∙ c.in_ok-normal.ensures)

pub returns-else-branch : goal.returns-else-branch
returns-else-branch c =
    let old = c.args.definitions.now in
    label_old old.labels c.insert.new.self (string_bytes c.in-Some.label) (map string_bytes old.addresses.items)
    (sym c.if-branch.false ∙ c.in_ok-insert-in-Some.ensures.is_new) c.in_ok-insert-in-Some.ensures.labels
    ∙ ap (with_label (defined_of old)) (ap (option_map string_bytes) (sym c.in-Some.is) ∙ c.in_ok-normal.ensures)

use Rattle.std.proofs.Common.{ℕ, List, [], ◌∷◌, ◌++◌, map, string_bytes, option_map, refl, sym, ap, ◌∙◌}
use Rattle.std.proofs.lemmas.List.{map-append}
use Rattle.markdown_brackets.specs.Labels.{normal}
use Rattle.markdown_lines.specs.LinksOf.{defined_of}
use Rattle.markdown_definitions.specs.Definitions.{with_definition}
use Rattle.markdown_definitions.proofs.DefinitionLemmas.{definition_new, definition_old}
use Rattle.markdown_definitions.proofs.definitions.push_definition.Goals as goal

pub returns-in_ok-push-in-Some : goal.returns-in_ok-push-in-Some
returns-in_ok-push-in-Some c =
    let old = c.args.definitions.now in
    let addresses : List (List ℕ) = map string_bytes old.addresses.items in
    definition_new old.labels c.insert.new.self (string_bytes c.in-Some.label) addresses (map string_bytes c.push.new.self.items) c.args.text.now
    (sym c.if-branch.true ∙ c.in_ok-insert-in-Some.ensures.is_new) c.in_ok-insert-in-Some.ensures.labels
    (ap (map string_bytes) c.in_ok-push-in-Some.ensures.items ∙ map-append string_bytes old.addresses.items (c.in_ok-address-in-Some.address ∷ []) ∙ ap (λ (a : List ℕ). addresses ++ a ∷ []) c.in_ok-address-in-Some.ensures)
    ∙ ap (λ label. with_definition (defined_of old) label c.args.text.now) (ap (option_map string_bytes) (sym c.in-Some.is) ∙ c.in_ok-normal.ensures ∙ ap normal c.label_of.ensures)

pub returns-else-branch : goal.returns-else-branch
returns-else-branch c =
    let old = c.args.definitions.now in
    let addresses : List (List ℕ) = map string_bytes old.addresses.items in
    definition_old old.labels c.insert.new.self (string_bytes c.in-Some.label) addresses addresses c.args.text.now
    (sym c.if-branch.false ∙ c.in_ok-insert-in-Some.ensures.is_new) c.in_ok-insert-in-Some.ensures.labels refl
    ∙ ap (λ label. with_definition (defined_of old) label c.args.text.now) (ap (option_map string_bytes) (sym c.in-Some.is) ∙ c.in_ok-normal.ensures ∙ ap normal c.label_of.ensures)

use Rattle.std.proofs.Common.{◌∙◌, ◌++◌, List, ℕ, ap, arith, map, string_bytes}
use Rattle.std.proofs.lemmas.List.{map-append}
use Rattle.markdown_anchors.specs.Anchors.{name_bytes}
use Rattle.markdown_headings.proofs.CountLemmas.{counted_once, name_pushed}
use Rattle.markdown_headings.proofs.names.push_name.Goals as goal

pub returns-clause-names : goal.returns-clause-names
returns-clause-names c =
    name_pushed c.args.text.now _ c.as_str.result.now c.as_str-2.result.now _ c.count_of-count.result c.args.counts.now _ _
    (c.in_ok-push_heading_name.ensures ∙ ap (λ (l : List ℕ). l ++ name_bytes c.args.text.now) c.new-name.ensures.bytes) c.as_str.ensures.value c.count_of-count.ensures c.as_str-2.ensures.value c.in_ok-numbered.ensures
    (ap (map string_bytes) c.in_ok-push.ensures.items ∙ map-append string_bytes _ _)

pub returns-clause-counts : goal.returns-clause-counts
returns-clause-counts c =
    counted_once c.args.text.now c.as_str.result.now c.push_heading_name.new.name c.count_of-count.result c.saturating_add.result c.args.counts.now c.insert.new.self
    (c.in_ok-push_heading_name.ensures ∙ ap (λ (l : List ℕ). l ++ name_bytes c.args.text.now) c.new-name.ensures.bytes) c.as_str.ensures.value c.count_of-count.ensures (omega (arith, c.saturating_add.ensures)) c.in_ok-insert.ensures.updates

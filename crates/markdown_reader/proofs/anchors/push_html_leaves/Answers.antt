use Rattle.std.proofs.Common.{ℕ, ◌-◌, ◌++◌, List, length, map, take, drop, sym, ap, ◌∙◌, arith}
use Rattle.std.specs.Borrow.{Bor}
use Rattle.markdown_html_text.proofs.LeafLemmas.{texts_of}
use Rattle.markdown_reader.specs.Anchors.{AnchorSaid, anchor_said, parts_anchors}
use Rattle.markdown_reader.specs.Mapping.{Mapping, html_parts, shown_parts}
use Rattle.markdown_reader.specs.MappingOf.{mapping_of}
use Rattle.markdown_reader.proofs.AnchorLemmas.{leaf_is_named, no_leaf_named}
use Rattle.markdown_reader.proofs.PartsLemmas.{first_of, leaf_is_shown, no_leaf_shown}
use Rattle.markdown_reader.proofs.anchors.push_html_leaves.Goals as goal

pub loop-rest-preserved : goal.loop-rest-preserved
loop-rest-preserved c =
    let rest : List (Bor (List ℕ)) = c.loop-rest.rest.now in
    let others : List (List ℕ) = texts_of (take (length rest - 1) (drop 1 rest)) in
    let apart = c.loop-rest.before in
    let done : List AnchorSaid = map anchor_said c.loop-rest.anchors.items in
    let m : Mapping = mapping_of c.loop-rest.mapper in
    let after : Mapping = mapping_of c.push_html_leaf.new.mapper in
    let first = first_of (λ (leaf : Bor (List ℕ)). leaf.now) rest _ (omega (arith, c.in-len1-up.len_at_least)) in
    record {
      anchors = λ defined. leaf_is_named defined apart _ others m after done (map anchor_said c.push_html_leaf.new.anchors.items) (c.in_ok-push_html_leaf.ensures.mapping defined) (c.in_ok-push_html_leaf.ensures.anchors defined)
          ∙ ap (λ (l : List (List ℕ)). done ++ parts_anchors defined (html_parts apart l) m) (sym first) ∙ c.loop-rest.invariant.anchors defined;
      mapping = λ defined. leaf_is_shown defined apart _ others m after (c.in_ok-push_html_leaf.ensures.mapping defined)
          ∙ ap (λ (l : List (List ℕ)). shown_parts defined (html_parts apart l) m) (sym first) ∙ c.loop-rest.invariant.mapping defined;
    }

pub returns-clause-anchors : goal.returns-clause-anchors
returns-clause-anchors c = λ defined.
    no_leaf_named defined c.loop-rest.before c.loop-rest.rest.now (mapping_of c.loop-rest.mapper) (map anchor_said c.loop-rest.anchors.items) (omega (arith, c.in_default.len_below)) ∙ c.loop-rest.invariant.anchors defined

pub returns-clause-mapping : goal.returns-clause-mapping
returns-clause-mapping c = λ defined. no_leaf_shown defined c.loop-rest.before c.loop-rest.rest.now (mapping_of c.loop-rest.mapper) (omega (arith, c.in_default.len_below)) ∙ c.loop-rest.invariant.mapping defined

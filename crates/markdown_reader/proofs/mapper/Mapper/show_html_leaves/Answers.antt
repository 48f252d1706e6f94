use Rattle.std.proofs.Common.{ℕ, ◌-◌, ◌++◌, List, length, take, drop, sym, ap, ◌∙◌, arith}
use Rattle.std.specs.Borrow.{Bor}
use Rattle.markdown_html_text.proofs.LeafLemmas.{texts_of}
use Rattle.markdown_reader.specs.Mapping.{Mapping, html_parts, shown_parts}
use Rattle.markdown_reader.specs.MappingOf.{mapping_of}
use Rattle.markdown_reader.specs.NumbersIn.{numbers_in}
use Rattle.markdown_reader.specs.SectionNumbers.{parts_numbers}
use Rattle.markdown_reader.proofs.PartsLemmas.{first_of, leaf_is_shown, leaf_is_numbered, no_leaf_numbered, no_leaf_shown}
use Rattle.markdown_reader.proofs.mapper.Mapper.show_html_leaves.Goals as goal

pub loop-rest-preserved : goal.loop-rest-preserved
loop-rest-preserved c =
    let rest : List (Bor (List ℕ)) = c.loop-rest.rest.now in
    let others : List (List ℕ) = texts_of (take (length rest - 1) (drop 1 rest)) in
    let apart = c.loop-rest.before in
    let m : Mapping = mapping_of c.loop-rest.self in
    let after : Mapping = mapping_of c.show_html_leaf.new.self in
    let first = first_of (λ (leaf : Bor (List ℕ)). leaf.now) rest _ (omega (arith, c.in-len1-up.len_at_least)) in
    record {
      mapping = λ defined. leaf_is_shown defined apart _ others m after (c.in_ok-show_html_leaf.ensures.mapping defined)
          ∙ ap (λ (l : List (List ℕ)). shown_parts defined (html_parts apart l) m) (sym first) ∙ c.loop-rest.invariant.mapping defined;
      numbers = λ defined. leaf_is_numbered defined apart _ others m after (numbers_in c.loop-rest.self) (numbers_in c.show_html_leaf.new.self) (c.in_ok-show_html_leaf.ensures.mapping defined) (c.in_ok-show_html_leaf.ensures.numbers defined)
          ∙ ap (λ (l : List (List ℕ)). numbers_in c.loop-rest.self ++ parts_numbers defined (html_parts apart l) m) (sym first) ∙ c.loop-rest.invariant.numbers defined;
    }

pub returns-clause-mapping : goal.returns-clause-mapping
returns-clause-mapping c = λ defined. no_leaf_shown defined c.loop-rest.before c.loop-rest.rest.now (mapping_of c.loop-rest.self) (omega (arith, c.in_default.len_below)) ∙ c.loop-rest.invariant.mapping defined

pub returns-clause-numbers : goal.returns-clause-numbers
returns-clause-numbers c = λ defined.
    no_leaf_numbered defined c.loop-rest.before c.loop-rest.rest.now (mapping_of c.loop-rest.self) (numbers_in c.loop-rest.self) (omega (arith, c.in_default.len_below)) ∙ c.loop-rest.invariant.numbers defined

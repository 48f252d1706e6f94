use Rattle.std.proofs.Common.{rules, take, [], List, ℕ, ◌≡◌, if◌then◌else◌, ap, sym, ◌∙◌, slice_index_or}
use Rattle.std.proofs.Output.{has_written_of_eq, has_written_append}
use Rattle.std.proofs.lemmas.List.{take_all, take_more, flat_map_more}
use Rattle.std.proofs.lemmas.Bool.{eqb-true}
use Rattle.std.specs.List.{flat_map}
use Rattle.mad_term.specs.Attribute.{all_attributes}
use Rattle.mad_term.specs.declared.attribute.Attribute.{Attribute}
use Rattle.mad_term.specs.declared.attribute.Attribute.TheVariants.{Reset}
use Rattle.mad_term.specs.Attributes.{attribute_bits, has_attribute}
use Rattle.mad_term.specs.Styles.{attribute_bytes}
use Rattle.mad_term.proofs.Pieces.{no_attributes}
use Rattle.mad_term.proofs.styles.AttributeCommandsDisplay.fmt.Goals.{then-has+in_ok-write, else-has}
use Rattle.mad_term.proofs.styles.AttributeCommandsDisplay.fmt.Goals as goal

pub loop-attribute-preserved : goal.loop-attribute-preserved
loop-attribute-preserved g c = λ p.
    let i = c.loop-attribute.attribute-index in
    let a = slice_index_or all_attributes i Reset in
    let part : Attribute → List ℕ = λ b. if has_attribute c.args.self.now.0 b then attribute_bytes b else [] in
    has_written_of_eq _ _ _ _ _ (flat_map_more part [] (take i all_attributes) a ∙ ap (flat_map part) (sym (take_more all_attributes i Reset c.loop-attribute-test.true)))
    (has_written_append _ _ _ _ (part a) _ (c.loop-attribute.invariant p) (elim c.if-has.branch [ then-has+in_ok-write w ↦ search rules | else-has w ↦ search rules ]))

pub returns-then-is_empty-clause-writes : goal.returns-then-is_empty-clause-writes
returns-then-is_empty-clause-writes g c = λ plain. λ ok.
    let none : attribute_bits c.args.self.now.0 ≡ 0 = eqb-true _ _ (sym c.is_empty.ensures.value ∙ c.if-is_empty.true) in
    has_written_of_eq _ _ _ _ _ (sym (no_attributes c.args.self.now.0 none)) (search rules)

pub returns-clause-writes : goal.returns-clause-writes
returns-clause-writes g c = λ plain. λ ok.
    let part : Attribute → List ℕ = λ b. if has_attribute c.args.self.now.0 b then attribute_bytes b else [] in
    has_written_of_eq _ _ _ _ _ (ap (flat_map part) (take_all c.loop-attribute.attribute-index all_attributes c.loop-attribute-test.false)) (c.loop-attribute.invariant plain)

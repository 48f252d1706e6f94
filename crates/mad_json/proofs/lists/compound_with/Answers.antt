use Rattle.std.proofs.Common.{rules, refl, sym, ◌∙◌, slice_index_or}
use Rattle.mad_term.specs.Attributes.{has_attribute}
use Rattle.mad_term.specs.declared.attribute.Attribute.TheVariants.{Reset}
use Rattle.mad_parse.specs.Written.{written_attributes}
use Rattle.mad_json.proofs.AttributeLemmas.{attribute_in, attribute_out}
use Rattle.mad_json.proofs.lists.compound_with.Goals.{then-has_attr, else-has_attr}
use Rattle.mad_json.proofs.lists.compound_with.Goals as goal

pub loop-attribute-preserved : goal.loop-attribute-preserved
loop-attribute-preserved c =
    let i = c.loop-attribute.attribute-index in
    let p = has_attribute c.args.line.now.object_style.attributes in
    let a = slice_index_or written_attributes i Reset in
    elim c.if-has_attr.branch [
      | then-has_attr w ↦
          attribute_in p a Reset written_attributes i c.loop-attribute.style _ _ c.loop-attribute-test.true refl (sym c.has_attr.ensures ∙ w.if-has_attr.true) c.loop-attribute.invariant (search rules)
      | else-has_attr w ↦
          attribute_out p a Reset written_attributes i c.loop-attribute.style _ _ c.loop-attribute-test.true refl (sym c.has_attr.ensures ∙ w.if-has_attr.false) c.loop-attribute.invariant (search rules)
    ]

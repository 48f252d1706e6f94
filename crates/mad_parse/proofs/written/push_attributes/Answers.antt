use Rattle.std.proofs.Common.{rules, refl, sym, ◌∙◌, slice_index_or}
use Rattle.mad_term.specs.Attributes.{has_attribute}
use Rattle.mad_term.specs.declared.attribute.Attribute.TheVariants.{Reset}
use Rattle.mad_parse.specs.Written.{written_attributes}
use Rattle.mad_parse.proofs.WriteLemmas.{attribute_pushed, attribute_passed}
use Rattle.mad_parse.proofs.written.push_attributes.Goals.{then-has+in_ok-push, else-has}
use Rattle.mad_parse.proofs.written.push_attributes.Goals as goal

pub loop-attribute-preserved : goal.loop-attribute-preserved
loop-attribute-preserved c =
    let i = c.loop-attribute.attribute-index in
    let a = slice_index_or written_attributes i Reset in
    elim c.if-has.branch [
      | then-has+in_ok-push w ↦
          attribute_pushed (has_attribute c.args.attributes) a Reset written_attributes i c.loop-attribute.tokens.items _ _ c.loop-attribute-test.true refl (sym c.has.ensures ∙ w.if-has.true) c.loop-attribute.invariant (search rules)
      | else-has w ↦
          attribute_passed (has_attribute c.args.attributes) a Reset written_attributes i c.loop-attribute.tokens.items _ _ c.loop-attribute-test.true refl (sym c.has.ensures ∙ w.if-has.false) c.loop-attribute.invariant (search rules)
    ]

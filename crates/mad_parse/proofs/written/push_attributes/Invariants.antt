use Rattle.std.proofs.Common.{◌≡◌, ◌++◌, map, filter, drop}
use Rattle.mad_term.specs.Attributes.{has_attribute}
use Rattle.mad_parse.specs.Written.{written_attributes, attribute_tokens}
use Rattle.mad_parse.specs.declared.tokens.StyleToken.TheVariants.{Attribute}
use Rattle.mad_parse.proofs.written.push_attributes.Given as goal

abbrev pub invariant-loop-attribute : goal.invariant-loop-attribute
invariant-loop-attribute l = l.tokens.items ++ map Attribute (filter (has_attribute l.attributes) (drop l.attribute-index written_attributes)) ≡ l.fn.tokens.items ++ attribute_tokens l.attributes

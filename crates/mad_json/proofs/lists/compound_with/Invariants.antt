use Rattle.std.proofs.Common.{◌≡◌, filter, drop}
use Rattle.mad_term.specs.Attributes.{has_attribute}
use Rattle.mad_parse.specs.TokenStyles.{all_added}
use Rattle.mad_parse.specs.Written.{written_attributes}
use Rattle.mad_json.specs.Lists.{compound_with}
use Rattle.mad_json.proofs.lists.compound_with.Given as goal

-- the style with the attributes that are left is the whole
abbrev pub invariant-loop-attribute : goal.invariant-loop-attribute
invariant-loop-attribute l =
    all_added l.style (filter (has_attribute l.line.object_style.attributes) (drop l.attribute-index written_attributes)) ≡ compound_with l.line l.fn.style

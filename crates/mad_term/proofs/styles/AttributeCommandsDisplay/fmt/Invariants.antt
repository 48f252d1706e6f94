use Rattle.std.proofs.Common.{take, [], if◌then◌else◌}
use Rattle.std.specs.List.{flat_map}
use Rattle.std.specs.Fmt.{HasWritten, IsPlainFormatter}
use Rattle.mad_term.specs.Attribute.{all_attributes}
use Rattle.mad_term.specs.Attributes.{has_attribute}
use Rattle.mad_term.specs.Styles.{attribute_bytes}
use Rattle.mad_term.proofs.styles.AttributeCommandsDisplay.fmt.Given as goal

abbrev pub invariant-loop-attribute : goal.invariant-loop-attribute
invariant-loop-attribute g l =
    IsPlainFormatter l.initial.f → HasWritten g.W.Write.write_str_gives l.initial.f (flat_map (λ a. if has_attribute l.self.0 a then attribute_bytes a else []) (take l.attribute-index all_attributes)) l.f

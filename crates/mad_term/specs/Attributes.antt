-- Sets of attributes.
use Rattle.std.specs.Prelude.{ℕ, Bool, ◌==◌}
use Rattle.std.specs.Int.{bit_at}
use Rattle.mad_term.specs.declared.attribute.Attribute.{Attribute}
use Rattle.mad_term.specs.declared.attributes.Attributes.{Attributes}
use Rattle.mad_term.specs.Attribute.{attribute_index}

-- a set as a number, below 2 ^ 24: one bit for each attribute, at its index
abbrev pub attribute_bits : Attributes → ℕ
attribute_bits s = s.bits.0

-- whether the set has the attribute
abbrev pub has_attribute : Attributes → Attribute → Bool
has_attribute s a = bit_at (attribute_bits s) (attribute_index a) == 1

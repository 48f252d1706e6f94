-- The names of the attributes.
use Rattle.std.specs.Prelude.{ℕ, List, ◌^◌, map}
use Rattle.mad_term.specs.Attribute.{attribute_name, attribute_index, all_attributes}

-- each attribute's name, with the set of it alone as a number
abbrev pub attribute_names : List (List ℕ × ℕ)
attribute_names = map (λ a. (attribute_name a, 2 ^ attribute_index a)) all_attributes

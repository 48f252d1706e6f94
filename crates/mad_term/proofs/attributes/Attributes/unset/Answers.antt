use Rattle.std.proofs.Common.{◌≡◌, ◌^◌, ◌-◌, rules, arith}
use Rattle.std.specs.Int.RustNames.{bit_and}
use Rattle.std.proofs.lemmas.Nat.{and_le_l}
use Rattle.mad_term.specs.Attribute.{attribute_index}
use Rattle.mad_term.proofs.Bits.{cut_same, cut_other}
use Rattle.mad_term.specs.AttributeSets.{bit-lt}
use Rattle.mad_term.proofs.AttributeIndexes.{attribute_index-lt}
use Rattle.mad_term.proofs.attributes.Attributes.unset.Goals as goal

pub invariant_of-self : goal.invariant_of-self
invariant_of-self c =
    let e : c.remove.new.self.0 ≡ bit_and c.args.self.now.bits.0 (2 ^ 32 - 1 - 2 ^ attribute_index c.args.attribute) = search rules in
    record { within = omega (arith, e, and_le_l c.args.self.now.bits.0 (2 ^ 32 - 1 - 2 ^ attribute_index c.args.attribute), c.args.self.now.within) }

pub returns-clause-has : goal.returns-clause-has
returns-clause-has c =
    let e : c.remove.new.self.0 ≡ bit_and c.args.self.now.bits.0 (2 ^ 32 - 1 - 2 ^ attribute_index c.args.attribute) = search rules in
    cut_same _ _ (attribute_index c.args.attribute) (omega (arith, attribute_index-lt c.args.attribute)) (omega (arith, bit-lt c.args.attribute)) e

pub returns-clause-others : goal.returns-clause-others
returns-clause-others c = λ b ne.
    let e : c.remove.new.self.0 ≡ bit_and c.args.self.now.bits.0 (2 ^ 32 - 1 - 2 ^ attribute_index c.args.attribute) = search rules in
    cut_other _ _ (attribute_index c.args.attribute) (attribute_index b) (omega (arith, attribute_index-lt b)) (omega (arith, bit-lt c.args.attribute)) e ne

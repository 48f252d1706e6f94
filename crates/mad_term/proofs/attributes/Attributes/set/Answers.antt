use Rattle.std.proofs.Common.{◌≡◌, ◌^◌, rules}
use Rattle.std.specs.Int.RustNames.{bit_or}
use Rattle.std.proofs.lemmas.Nat.{or_lt}
use Rattle.mad_term.specs.Attribute.{attribute_index}
use Rattle.mad_term.proofs.SameAttributes.{same_bits}
use Rattle.mad_term.proofs.Bits.{put_same, put_other}
use Rattle.mad_term.specs.AttributeSets.{bit-lt}
use Rattle.mad_term.proofs.attributes.Attributes.set.Goals as goal

pub invariant_of-self : goal.invariant_of-self
invariant_of-self c =
    let e : c.insert.new.self.0 ≡ bit_or c.args.self.now.bits.0 (2 ^ attribute_index c.args.attribute) = search rules in
    record { within = rw e (or_lt 24 _ _ c.args.self.now.within (bit-lt c.args.attribute)) }

pub returns-clause-has : goal.returns-clause-has
returns-clause-has c =
    let e : c.insert.new.self.0 ≡ bit_or c.args.self.now.bits.0 (2 ^ attribute_index c.args.attribute) = search rules in
    put_same _ _ (attribute_index c.args.attribute) e

pub returns-clause-others : goal.returns-clause-others
returns-clause-others c = λ b ne.
    let e : c.insert.new.self.0 ≡ bit_or c.args.self.now.bits.0 (2 ^ attribute_index c.args.attribute) = search rules in
    put_other _ _ (attribute_index c.args.attribute) (attribute_index b) e ne

pub returns-clause-value : goal.returns-clause-value
returns-clause-value c =
    let e : c.insert.new.self.0 ≡ bit_or c.args.self.now.bits.0 (2 ^ attribute_index c.args.attribute) = search rules in
    same_bits _ _ e

use Rattle.std.proofs.Common.{◌≡◌, rules, ap, ◌∙◌, eqb}
use Rattle.std.specs.Int.{bit_at}
use Rattle.std.specs.Int.RustNames.{bit_or}
use Rattle.std.proofs.lemmas.Nat.{or_lt}
use Rattle.mad_term.specs.Attribute.{attribute_index}
use Rattle.mad_term.proofs.SameAttributes.{same_bits}
use Rattle.mad_term.proofs.Bits.{or_test}
use Rattle.mad_term.proofs.attributes.Attributes.extend.Goals as goal

pub invariant_of-self : goal.invariant_of-self
invariant_of-self c =
    let e : c.insert.new.self.0 ≡ bit_or c.args.self.now.bits.0 c.args.other.bits.0 = search rules in
    record { within = rw e (or_lt 24 _ _ c.args.self.now.within c.args.other.within) }

pub returns-clause-has : goal.returns-clause-has
returns-clause-has c = λ b.
    let e : c.insert.new.self.0 ≡ bit_or c.args.self.now.bits.0 c.args.other.bits.0 = search rules in
    ap (λ n. eqb (bit_at n (attribute_index b)) 1) e ∙ or_test _ _ (attribute_index b)

pub returns-clause-value : goal.returns-clause-value
returns-clause-value c =
    let e : c.insert.new.self.0 ≡ bit_or c.args.self.now.bits.0 c.args.other.bits.0 = search rules in
    same_bits _ _ e

use Rattle.std.proofs.Common.{sym, arith}
use Rattle.mad_keys.proofs.HeldLemmas.{no_number}
use Rattle.mad_keys.proofs.characters.number_of.Goals as goal

pub returns-clause-is : goal.returns-clause-is
returns-clause-is c = sym (no_number c.args.modifiers (λ n h e. c.loop-number.invariant n (omega (arith, c.loop-number-test.false)) e))

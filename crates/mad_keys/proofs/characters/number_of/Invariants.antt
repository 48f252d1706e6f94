use Rattle.std.proofs.Common.{◌≡◌, ◌<◌, ℕ}
use Rattle.mad_keys.specs.Keys.{held}
use Rattle.mad_keys.proofs.characters.number_of.Given as goal

abbrev pub invariant-loop-number : goal.invariant-loop-number
invariant-loop-number l = (n : ℕ) → n < l.number → l.fn.modifiers ≡ held n → ⊥

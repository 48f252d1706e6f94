use Rattle.std.proofs.Common.{◌∙◌, rules}
use Rattle.mad_screen.specs.Terminal.{erased}
use Rattle.mad_screen.proofs.screen.Screen.erase.Goals as goal

pub invariant_of-self : goal.invariant_of-self
invariant_of-self c = record {
  full = c.erase.ensures.same ∙ c.self.invariant.full;
  column = c.self.invariant.column;
  row = c.self.invariant.row;
}

pub returns : goal.returns
unfolding erased
returns c = search rules

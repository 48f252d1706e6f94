use Rattle.std.proofs.Common.{refl, lit<, [], ◌∷◌}
use Rattle.mad_screen.specs.Grid.{plain_pen}
use Rattle.mad_screen.proofs.CommandsRead.{sgr_read}
use Rattle.mad_screen.proofs.laws.code_zero_resets_the_pen.Goals as goal

pub returns : goal.returns
returns c = λ g. sgr_read g (0 ∷ []) plain_pen (lit< tt, tt) refl

use Rattle.std.proofs.Common.{refl}
use Rattle.mad_draw.proofs.laws.border_styles_are.Goals as goal

pub returns : goal.returns
returns c = record { half_width_outside = refl; middle_square_line = refl; middle_round_line = refl; bland = refl }

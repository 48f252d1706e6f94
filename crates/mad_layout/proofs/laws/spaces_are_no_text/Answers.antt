use Rattle.mad_layout.proofs.WordScreens.{spaces_are_no_text}
use Rattle.mad_layout.proofs.laws.spaces_are_no_text.Goals as goal

pub returns : goal.returns
returns c = spaces_are_no_text

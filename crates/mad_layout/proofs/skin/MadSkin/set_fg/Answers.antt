use Rattle.std.proofs.Common.{rules}
use Rattle.mad_layout.proofs.skin.MadSkin.set_fg.Goals as goal

pub returns : goal.returns
returns c = search rules

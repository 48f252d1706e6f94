use Rattle.std.proofs.Common.{refl}
use Rattle.mad_blocks.proofs.WrapKinds.{layout_fitting}
use Rattle.mad_layout.proofs.fmt_text.FmtText.from.Goals as goal

pub returns : goal.returns
returns c =
    let laid = c.in_ok-lines.ensures in
    record { skin = refl; width = refl; lines = laid; fitting = (laid.0, laid.1, layout_fitting _ _ _ _ laid.2) }

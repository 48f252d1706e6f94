use Rattle.mad_layout.proofs.skin.MadSkin.area_front.Goals as goal

pub returns-clause-lines : goal.returns-clause-lines
returns-clause-lines c =
    let laid = c.in_ok-lines.ensures in
    record { text = laid.0; read = laid.1; layout = rw (c.saturating_sub.ensures, c.from.ensures, c.from-rows.ensures) at laid.2 }

use Rattle.std.proofs.Common.{ap, ◌∙◌}
use Rattle.mad_md.specs.Flagged.{run_of}
use Rattle.mad_rows.specs.RowStyles.{compound_style}
use Rattle.mad_rows.specs.declared.row_skin.RowSkin.{RowSkin}
use Rattle.mad_layout.proofs.skin.MadSkin.compound_style.Goals as goal

pub returns : goal.returns
returns c = c.compound_style.ensures ∙ ap (λ (s : RowSkin). compound_style s c.args.line_style.now (run_of c.args.compound.now)) c.row_skin.ensures

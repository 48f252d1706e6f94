use Rattle.std.proofs.Common.{◌≡◌, chars, sym, ◌∙◌, arith}
use Rattle.mad_md.specs.Flagged.{flags_of, flagged_of}
use Rattle.mad_measure.specs.TextColumns.{width_of}
use Rattle.mad_measure.proofs.FlaggedLemmas.{width_of-flagged}
use Rattle.mad_format.proofs.composite.FmtComposite.add_compound.Goals as goal

pub returns-clause-length : goal.returns-clause-length
returns-clause-length c =
    let measured : c.columns-columns.result ≡ width_of (flagged_of c.args.compound) = c.columns-columns.ensures.value ∙ sym (width_of-flagged (flags_of c.args.compound) (chars c.args.compound.src.now)) in
    omega (arith, measured, c.saturating_add-self.ensures)

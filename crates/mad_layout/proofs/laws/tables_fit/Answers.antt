use Rattle.mad_format.specs.CompositeWraps.{IsCompositeWrap}
use Rattle.mad_blocks.specs.FittingLayouts.{IsFittingWrap}
use Rattle.mad_blocks.specs.Tables.{columns_count}
use Rattle.mad_layout.proofs.DrawableTables.{tables_fitting}
use Rattle.mad_blocks.proofs.WrapKinds.{table_by, wrap_fits}
use Rattle.mad_layout.proofs.laws.tables_fit.Goals as goal
use Rattle.mad_rows.specs.RowStyles.{line_rules}

pub returns-clause-fitting : goal.returns-clause-fitting
returns-clause-fitting c = tables_fitting

pub returns-clause-least : goal.returns-clause-least
returns-clause-least c = λ skin width drawn table lines two narrower bound borders bare printable laid.
    tables_fitting skin width drawn table lines two narrower bound borders bare printable (table_by IsCompositeWrap IsFittingWrap wrap_fits (line_rules skin) (columns_count table) width table lines laid)

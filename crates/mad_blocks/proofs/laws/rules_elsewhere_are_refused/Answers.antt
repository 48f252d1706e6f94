use Rattle.mad_format.specs.CompositeWraps.{IsCompositeWrap}
use Rattle.mad_blocks.specs.FittingLayouts.{IsFittingWrap}
use Rattle.mad_blocks.proofs.WorkedTables.{no_rules}
use Rattle.mad_blocks.proofs.laws.rules_elsewhere_are_refused.Goals as goal

pub returns-clause-least : goal.returns-clause-least
returns-clause-least c = no_rules IsCompositeWrap

pub returns-clause-fitting : goal.returns-clause-fitting
returns-clause-fitting c = no_rules IsFittingWrap

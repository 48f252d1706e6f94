use Rattle.mad_format.specs.CompositeWraps.{IsCompositeWrap}
use Rattle.mad_blocks.specs.FittingLayouts.{IsFittingWrap}
use Rattle.mad_blocks.proofs.PassLemmas as lemmas
use Rattle.mad_blocks.proofs.laws.passes_are_parts.Goals as goal

pub returns-clause-passes : goal.returns-clause-passes
returns-clause-passes c = lemmas.passes_are_parts IsCompositeWrap

pub returns-clause-parts : goal.returns-clause-parts
returns-clause-parts c = lemmas.parts_are_passes IsCompositeWrap

pub returns-clause-fitting_passes : goal.returns-clause-fitting_passes
returns-clause-fitting_passes c = lemmas.passes_are_parts IsFittingWrap

pub returns-clause-fitting_parts : goal.returns-clause-fitting_parts
returns-clause-fitting_parts c = lemmas.parts_are_passes IsFittingWrap

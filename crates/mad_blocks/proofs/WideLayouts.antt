-- Layouts at a width of three columns or more.
use Rattle.std.proofs.Common.{ℕ, List, Some}
use Rattle.mad_md.specs.Lines.{LineContent}
use Rattle.mad_format.specs.CompositeWraps.{IsCompositeWrap}
use Rattle.mad_blocks.specs.Layouts.{IsLayoutBy}
use Rattle.mad_format.specs.LineRules.{LineRules}
use Rattle.mad_format.specs.declared.line.FmtLine.{FmtLine}

-- the lines are a layout of the text at a width, each line's wrap one with the fewest lines
abbrev pub IsLayout : LineRules → ℕ → List LineContent → List FmtLine → Type 0
IsLayout skin width text lines = IsLayoutBy IsCompositeWrap skin width (Some width) text lines

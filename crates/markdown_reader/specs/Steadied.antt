-- Sections before and after each of their runs was made steady.
use Rattle.std.specs.Prelude.{◌≡◌, List, [], ◌∷◌}
use Rattle.mad_md.specs.Lines.{LineContent}
use Rattle.mad_sections.specs.Sections.{SectionContent}
use Rattle.markdown_lines.specs.Printed.{ArePrinted}
use Rattle.markdown_reader.specs.Steady.{steady_lines, steady_section, AreSteadyLines}

-- Lines were made steady: they are, and no character of them is obeyed where none was before.
pub record AreSteadiedLines (before after : List LineContent) : Type 0 where
  pub made : after ≡ steady_lines before
  pub steady : AreSteadyLines after
  pub printed : ArePrinted before → ArePrinted after

-- A section was made so: its lines are steady, and none of their characters is obeyed where none was before.
pub record IsSteadied (before after : SectionContent) : Type 0 where
  pub made : after ≡ steady_section before
  pub steady : AreSteadyLines after.lines
  pub printed : ArePrinted before.lines → ArePrinted after.lines

-- Each of some sections was made so, in order.
abbrev pub AreSteadied : List SectionContent → List SectionContent → Type 0
AreSteadied [] [] = Unit {0}
AreSteadied (b ∷ befores) (a ∷ afters) = IsSteadied b a × AreSteadied befores afters
AreSteadied _ _ = ⊥

-- What rows and what is shown of a section say, whatever the addresses of their slices.
use Rattle.std.specs.Prelude.{ℕ, Bool, false, List, [], ◌∷◌, map}
use Rattle.mad_md.specs.Lines.{StyledRuns, styled_runs}
use Rattle.mad_md.specs.declared.line.TableRow.{TableRow}
use Rattle.mad_sections.specs.Sections.{SectionContent, section_content}
use Rattle.mad_sections.specs.Items.{says_heads}
use Rattle.mad_sections.specs.declared.unfolding.Unfolded.{Unfolded}
use Rattle.mad_sections.specs.declared.unfolding.Unfolded.TheVariants.{Itself, Items}

-- what the cells of rows say
abbrev pub rows_said : List TableRow → List (List StyledRuns)
rows_said rows = map (λ (row : TableRow). map styled_runs row.cells.items) rows

-- the first of these rows are heads that are said
abbrev pub says_heads_of : ℕ → List (List StyledRuns) → Bool
says_heads_of room [] = false
says_heads_of room (heads ∷ rows) = says_heads room heads rows

-- what the sections say that are shown
abbrev pub sections_shown : Unfolded → List SectionContent
sections_shown (Itself section) = section_content section ∷ []
sections_shown (Items sections) = map section_content sections.items

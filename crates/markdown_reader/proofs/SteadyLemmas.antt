-- Sections before and after each of their runs was made steady.
use Rattle.std.proofs.Common.{◌≡◌, List, [], ◌∷◌, ◌++◌, map, refl, sym, subst, ◌∙◌, append_assoc, append-nil}
use Rattle.mad_sections.specs.Sections.{SectionContent}
use Rattle.markdown_reader.specs.Markdown.{without_marks}
use Rattle.markdown_reader.specs.Printed.{ArePrintedSections}
use Rattle.markdown_reader.specs.Steadied.{IsSteadied, AreSteadied, AreSteadiedLines}
use Rattle.mad_md.specs.declared.composite.CompositeStyle.TheVariants.{Paragraph}
use Rattle.markdown_lines.specs.Restyled.{empty_line}
use Rattle.markdown_lines.specs.Steady.{steady_lines, AreSteadyLines}
use Rattle.markdown_reader.specs.Steady.{steady_sections, AreSteadySections}

-- sections that were made so are steady sections of those before
pub steadied_are : (before after : List SectionContent) → AreSteadied before after → after ≡ steady_sections before
steadied_are [] [] h = refl
steadied_are [] (a ∷ after) h = absurd h
steadied_are (b ∷ before) [] h = absurd h
steadied_are (b ∷ before) (a ∷ after) h = let first = h.0.made in let rest = steadied_are before after h.1 in cc

-- each run of them is steady
pub steadied_steady : (before after : List SectionContent) → AreSteadied before after → AreSteadySections after
unfolding AreSteadySections
steadied_steady [] [] h = tt
steadied_steady [] (a ∷ after) h = absurd h
steadied_steady (b ∷ before) [] h = absurd h
steadied_steady (b ∷ before) (a ∷ after) h = (h.0.steady, steadied_steady before after h.1)

-- where no character was obeyed before, none is now
pub steadied_printed : (before after : List SectionContent) → AreSteadied before after → ArePrintedSections before → ArePrintedSections after
unfolding ArePrintedSections
steadied_printed [] [] h k = tt
steadied_printed [] (a ∷ after) h k = absurd h
steadied_printed (b ∷ before) [] h k = absurd h
steadied_printed (b ∷ before) (a ∷ after) h k = (h.0.printed k.0, steadied_printed before after h.1 k.1)

-- one more, behind those before
pub steadied_more : (before after : List SectionContent) (b a : SectionContent) → AreSteadied before after → IsSteadied b a → AreSteadied (before ++ b ∷ []) (after ++ a ∷ [])
steadied_more [] [] b a h k = (k, tt)
steadied_more [] (x ∷ after) b a h k = absurd h
steadied_more (x ∷ before) [] b a h k = absurd h
steadied_more (x ∷ before) (y ∷ after) b a h k = (h.0, steadied_more before after b a h.1 k)

-- So far the front ones were made steady.
pub record SteadiedSoFar (all rest made : List SectionContent) : Type 0 where
  pub done : List SectionContent
  pub joins : all ≡ done ++ rest
  pub steadied : AreSteadied done made

-- at first none was made steady
pub so_far_none : (all : List SectionContent) → SteadiedSoFar all all []
so_far_none all = record { done = []; joins = refl; steadied = tt }

-- one more was made steady
pub so_far_more : (all rest made : List SectionContent) (b a : SectionContent) → SteadiedSoFar all (b ∷ rest) made → IsSteadied b a → SteadiedSoFar all rest (made ++ a ∷ [])
so_far_more all rest made b a h k = record { done = h.done ++ b ∷ []; joins = h.joins ∙ sym (append_assoc h.done (b ∷ []) rest); steadied = steadied_more h.done made b a h.steadied k }

-- where none is left, all were made steady
pub so_far_all : (all made : List SectionContent) → SteadiedSoFar all [] made → AreSteadied all made
so_far_all all made h = subst (λ (l : List SectionContent). AreSteadied l made) (sym (h.joins ∙ append-nil h.done)) h.steadied

-- a row without text is steady as it is
pub empty_steadied : AreSteadiedLines (empty_line Paragraph ∷ []) (empty_line Paragraph ∷ [])
unfolding steady_lines AreSteadyLines
empty_steadied = record { made = refl; steady = (tt, tt); printed = λ h. h }

printed_without : (sections : List SectionContent) → ArePrintedSections sections → ArePrintedSections (map without_marks sections)
unfolding ArePrintedSections
printed_without [] h = tt
printed_without (s ∷ sections) h = (h.0, printed_without sections h.1)

-- where no character of sections was obeyed, none is without their marks
pub unmarked_printed : (before after : List SectionContent) → after ≡ map without_marks before → ArePrintedSections before → ArePrintedSections after
unmarked_printed before after is h = subst ArePrintedSections (sym is) (printed_without before h)

-- Sections in groups, each with what is put into the page with it.
use Rattle.std.proofs.Common.{◌≡◌, List, [], ◌∷◌, map, refl, ap, ◌∙◌}
use Rattle.mad_sections.specs.Sections.{SectionContent}
use Rattle.mad_dressing.specs.Dressed.{Put, dressed, put_with}
use Rattle.mad_dressing.specs.declared.page_marks.PageMarks.{PageMarks}
use Rattle.mad_search.specs.PagedTexts.{grouped}

-- with what is put there with each section, the groups are those that are shown in the place of each
each_grouped : (marks : PageMarks) (page : List SectionContent) → grouped (map (put_with marks) page) page ≡ map (dressed marks) page
each_grouped marks [] = refl
each_grouped marks (section ∷ page) = ap (λ (rest : List (List SectionContent)). dressed marks section ∷ rest) (each_grouped marks page)

-- so is a page by what says the same
pub page_grouped : (marks : PageMarks) (puts : List Put) (page : List SectionContent) → puts ≡ map (put_with marks) page → grouped puts page ≡ map (dressed marks) page
page_grouped marks puts page is = ap (λ (ps : List Put). grouped ps page) is ∙ each_grouped marks page

use Rattle.std.proofs.Common.{◌≡◌, List, [], ◌∷◌, ◌++◌, map, ap, sym, subst, ◌∙◌}
use Rattle.std.proofs.lemmas.List.{map-append}
use Rattle.std.specs.Vec.Iter.{into_iter_items}
use Rattle.mad_sections.specs.Sections.{SectionContent}
use Rattle.markdown_reader.specs.NumbersIn.{section_numbers}
use Rattle.markdown_reader.specs.SectionsSaid.{section_said}
use Rattle.markdown_reader.specs.declared.sections.MarkdownSection.{MarkdownSection}
use Rattle.markdown_reader.proofs.LinkMarkLemmas.{one_behind}
use Rattle.markdown_reader.proofs.SteadyLemmas.{SteadiedSoFar, so_far_more}
use Rattle.markdown_reader.proofs.markdown.steadied.Goals as goal

pub loop-section-preserved : goal.loop-section-preserved
loop-section-preserved c =
    let all : List SectionContent = map section_said c.args.sections.items in
    let rest : List SectionContent = map section_said (into_iter_items c.next.new.self) in
    let made : List SectionContent = map section_said c.loop-section.made.items in
    let before : SteadiedSoFar all (section_said c.in-Some.section ∷ rest) made = subst (λ (l : List MarkdownSection). SteadiedSoFar all (map section_said l) made) c.in-Some.ensures.steps.0 c.loop-section.invariant.steadied in
    let added : map section_said c.push.new.self.items ≡ made ++ section_said c.in_ok-steady.steady ∷ [] = ap (map section_said) c.in_ok-push.ensures.items ∙ map-append section_said c.loop-section.made.items (c.in_ok-steady.steady ∷ []) in
    let was : map section_numbers c.loop-section.made.items ++ (section_numbers c.in-Some.section ∷ map section_numbers (into_iter_items c.next.new.self)) ≡ map section_numbers c.args.sections.items =
    ap (λ (l : List MarkdownSection). map section_numbers c.loop-section.made.items ++ map section_numbers l) (sym c.in-Some.ensures.steps.0) ∙ c.loop-section.invariant.numbers in
    record {
      steadied = subst (SteadiedSoFar all rest) (sym added) (so_far_more all rest made (section_said c.in-Some.section) (section_said c.in_ok-steady.steady) before c.in_ok-steady.ensures.steadied);
      numbers = one_behind (map section_numbers c.loop-section.made.items) _ (section_numbers c.in-Some.section) (section_numbers c.in_ok-steady.steady) _ _ c.in_ok-steady.ensures.numbers (ap (map section_numbers) c.in_ok-push.ensures.items ∙ map-append section_numbers c.loop-section.made.items (c.in_ok-steady.steady ∷ [])) was;
    }

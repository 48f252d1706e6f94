use Rattle.std.proofs.Common.{rules, arith, ◌≡◌, List, [], map, string_bytes, ap}
use Rattle.std.proofs.lemmas.Grind.{common_steps}
use Rattle.std.specs.Vec.Iter.{into_iter_items}
use Rattle.mad_sections.specs.Sections.{SectionContent, section_content}
use Rattle.markdown_layout.proofs.WrittenLemmas.{written_on, written_whole}
use Rattle.markdown_layout.proofs.writing.page_rows.Goals as goal

pub loop-section-preserved : goal.loop-section-preserved
loop-section-preserved c =
    let all : List SectionContent = map section_content c.args.page.sections.items in
    let after : List SectionContent = map section_content (into_iter_items c.next.new.self) in
    let done = c.in_ok-append_section.ensures in
    written_on c.args.skin.now c.args.width all (map section_content (into_iter_items c.loop-section.section-iterator)) after (section_content c.in-Some.section) [] (string_bytes c.loop-section.rows) (string_bytes c.append_section.new.rows) done.0
    c.loop-section.invariant (ap (map section_content) c.in-Some.ensures.steps.0) done.1 done.2

pub returns : goal.returns
returns c =
    let none : into_iter_items c.loop-section.section-iterator ≡ [] = first_of (search rules, grind (arith, common_steps)) in
    written_whole c.args.skin.now c.args.width (map section_content c.args.page.sections.items) (map section_content (into_iter_items c.loop-section.section-iterator)) [] (string_bytes c.loop-section.rows) c.loop-section.invariant
    (ap (map section_content) none)

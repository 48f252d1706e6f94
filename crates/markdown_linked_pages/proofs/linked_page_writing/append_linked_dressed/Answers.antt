use Rattle.std.proofs.Common.{◌≡◌, ◌∷◌, [], Option, string_bytes, option_map, ap, sym, ◌∙◌}
use Rattle.mad_dressing.specs.Dressed.{Put, dressed, dressed_by, maybe_section}
use Rattle.mad_sections.specs.Sections.{SectionContent, section_content}
use Rattle.mad_sections.specs.declared.sections.Section.{Section}
use Rattle.markdown_linked_pages.specs.LinkedPages.{linked_row_bytes}
use Rattle.markdown_linked_pages.proofs.WrittenLemmas.{one_shown, rule_laid}
use Rattle.markdown_linked_pages.proofs.linked_page_writing.append_linked_dressed.Goals as goal

pub returns-in-Some : goal.returns-in-Some
returns-in-Some c =
    let skin = c.args.text.skin.skin.now in
    let section : SectionContent = section_content c.args.section in
    let one : SectionContent = section_content c.in_ok-dressed.dressed.section in
    let rule : SectionContent = section_content c.in-Some.rule in
    let shown : one ∷ rule ∷ [] ≡ dressed c.args.text.marks section =
    sym (ap (λ (o : Option Section). one ∷ maybe_section (option_map section_content o)) c.in-Some.is) ∙ c.in_ok-dressed.ensures ∙ ap (λ (put : Put). dressed_by put section) c.in_ok-dressing.ensures in
    rule_laid c.append_linked_section-in-Some.result (linked_row_bytes c.args.text.skin.addresses.now skin c.args.text.width) skin c.args.text.width (dressed c.args.text.marks section) one rule (string_bytes c.args.rows.now) (string_bytes c.append_linked_section.new.rows)
    (string_bytes c.append_linked_section-in-Some.new.rows) shown c.in_ok-append_linked_section.ensures (rw c.in-Some.rule-is at c.append_linked_section-in-Some.ensures)

pub returns : goal.returns
returns c =
    let section : SectionContent = section_content c.args.section in
    let one : SectionContent = section_content c.in_ok-dressed.dressed.section in
    let shown : one ∷ [] ≡ dressed c.args.text.marks section =
    sym (ap (λ (o : Option Section). one ∷ maybe_section (option_map section_content o)) c.in-None.is) ∙ c.in_ok-dressed.ensures ∙ ap (λ (put : Put). dressed_by put section) c.in_ok-dressing.ensures in
    let done = c.in_ok-append_linked_section.ensures in
    (done.0, one_shown c.args.text.skin.skin.now c.args.text.width (dressed c.args.text.marks section) one done.0 shown done.1, done.2)

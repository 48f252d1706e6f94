use Rattle.std.proofs.Common.{◌≡◌, ◌∷◌, [], Option, string_bytes, option_map, ap, sym, ◌∙◌}
use Rattle.mad_dressing.specs.Dressed.{Put, dressed, dressed_by, maybe_section}
use Rattle.mad_sections.specs.Sections.{SectionContent, section_content}
use Rattle.mad_sections.specs.declared.sections.Section.{Section}
use Rattle.markdown_layout.proofs.WrittenLemmas.{one_shown, rule_laid}
use Rattle.markdown_layout.proofs.writing.append_dressed.Goals as goal

pub returns-in-Some : goal.returns-in-Some
returns-in-Some c =
    let section : SectionContent = section_content c.args.section in
    let one : SectionContent = section_content c.in_ok-dressed.dressed.section in
    let rule : SectionContent = section_content c.in-Some.rule in
    let shown : one ∷ rule ∷ [] ≡ dressed c.args.marks section =
    sym (ap (λ (o : Option Section). one ∷ maybe_section (option_map section_content o)) c.in-Some.is) ∙ c.in_ok-dressed.ensures ∙ ap (λ (put : Put). dressed_by put section) c.in_ok-dressing.ensures in
    rule_laid c.append_section-in-Some.result c.args.skin.now c.args.width (dressed c.args.marks section) one rule (string_bytes c.args.rows.now) (string_bytes c.append_section.new.rows) (string_bytes c.append_section-in-Some.new.rows) shown
    c.in_ok-append_section.ensures (rw c.in-Some.rule-is at c.append_section-in-Some.ensures)

pub returns : goal.returns
returns c =
    let section : SectionContent = section_content c.args.section in
    let one : SectionContent = section_content c.in_ok-dressed.dressed.section in
    let shown : one ∷ [] ≡ dressed c.args.marks section =
    sym (ap (λ (o : Option Section). one ∷ maybe_section (option_map section_content o)) c.in-None.is) ∙ c.in_ok-dressed.ensures ∙ ap (λ (put : Put). dressed_by put section) c.in_ok-dressing.ensures in
    let done = c.in_ok-append_section.ensures in
    (done.0, one_shown c.args.skin.now c.args.width (dressed c.args.marks section) one done.0 shown done.1, done.2)

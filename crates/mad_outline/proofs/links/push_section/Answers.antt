use Rattle.std.proofs.Common.{List, ap, map, ◌∙◌}
use denote.Ref.{Bor}
use Rattle.mad_link_marks.specs.LinkMarks.{first_link}
use Rattle.mad_md.specs.Flagged.{run_of}
use Rattle.mad_md.specs.Lines.{content_of}
use Rattle.mad_sections.specs.Sections.{SectionContent}
use Rattle.markdown_reader.specs.MarkdownSays.{LinkSaid, link_said}
use Rattle.markdown_reader.specs.declared.sections.Link.{Link}
use Rattle.mad_outline.specs.LinkLists.{lines_at, link_runs, links_before, section_links}
use Rattle.mad_outline.proofs.LinkLemmas.{section_put}
use Rattle.mad_outline.proofs.links.push_section.Goals as goal

pub returns : goal.returns
returns c =
    let section = c.args.section in
    section_put c.push_links.result (map content_of c.args.lines.now.items) (map content_of c.push_links.new.lines.items) c.links_before.result _ first_link c.as_slice.result.now _ (map run_of c.as_slice-2.result.now) _
    (map (λ (k : Bor Link). link_said k.now) c.as_slice-3.result.now) _ (c.links_before.ensures ∙ ap (λ (l : List LinkSaid). links_before c.args.from section l) c.links-2.ensures) (c.as_slice.ensures.value ∙ c.in_ok-marks.ensures.marks)
    (ap (map run_of) c.as_slice-2.ensures.value ∙ (c.in_ok-runs.ensures ∙ ap (λ (p : List SectionContent). link_runs (lines_at p section)) c.requires))
    (ap (map (λ (k : Bor Link). link_said k.now)) c.as_slice-3.ensures.value ∙ (c.in_ok-links.ensures ∙ ap (section_links section) c.links.ensures)) c.push_links.ensures

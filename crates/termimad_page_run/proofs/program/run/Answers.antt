use Rattle.std.proofs.Common.{ap, map, ◌∙◌}
use Rattle.mad_dressing.specs.Dressed.{put_of, put_with}
use Rattle.mad_dressing.specs.declared.page_marks.PageMarks.{PageMarks}
use Rattle.mad_page_skin.specs.PageSkins.{page_marks}
use Rattle.mad_sections.specs.Sections.{page_content}
use Rattle.mad_outline.specs.Sources.{links_of}
use Rattle.markdown_reader.specs.MarkdownSays.{markdown_says}
use Rattle.termimad_page_run.proofs.RunLemmas.{links_read, markdown_said}
use Rattle.termimad_page_run.proofs.program.run.Goals as goal

pub page-requires-in-Markdown-clause-text : goal.page-requires-in-Markdown-clause-text
page-requires-in-Markdown-clause-text g c =
    let sheet = c.args.sheet.now in
    let read = c.in_ok-markdown-in-Markdown.markdown in
    let page = page_content c.in_ok-sections-in-Markdown.sections in
    markdown_said sheet.grammar (page_marks sheet.skin.now) sheet.text.now (map put_of c.deref-in-Markdown.result.now) page (markdown_says read) (links_of read sheet.text.now) c.in-Markdown.is c.in_ok-markdown-in-Markdown.ensures.sections
    c.in_ok-sections-in-Markdown.ensures
    (ap (map put_of) c.deref-in-Markdown.ensures.value ∙ c.in_ok-dressings-in-Markdown.ensures ∙ ap (λ (marks : PageMarks). map (put_with marks) page) c.marks.ensures)
    (links_read read sheet.text.now c.in_ok-markdown-in-Markdown.ensures.links c.in_ok-markdown-in-Markdown.ensures.link_marks)

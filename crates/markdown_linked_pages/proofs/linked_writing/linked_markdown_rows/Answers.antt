use Rattle.std.proofs.Common.{◌∙◌, ap}
use Rattle.std.specs.Prelude.{string_bytes}
use Rattle.markdown_reader.specs.Markdown.{markdown_links, markdown_sections}
use Rattle.markdown_reader.specs.MarkdownSays.{links_said, markdown_says}
use Rattle.markdown_reader.specs.LinkMarks.{markdown_link_marks}
use Rattle.markdown_reader.specs.NumbersIn.{link_marks_said}
use Rattle.markdown_linked_pages.specs.LinkedPages.{addresses_of}
use Rattle.markdown_linked_pages.proofs.WrittenLemmas.{text_written}
use Rattle.markdown_linked_pages.proofs.linked_writing.linked_markdown_rows.Goals as goal

pub returns : goal.returns
returns c =
    let read = c.in_ok-read.read in
    let source = c.args.markdown.now in
    text_written c.args.skin.now c.args.width (links_said read) (markdown_links source) (link_marks_said read) (markdown_link_marks source) (markdown_says read) (markdown_sections source) c.as_slice.result.now (string_bytes c.in_ok-rows.rows) (string_bytes c.append_linked_text.new.rows)
    c.in_ok-read.ensures.links c.in_ok-read.ensures.link_marks c.in_ok-read.ensures.sections (c.as_slice.ensures.value ∙ c.in_ok-addresses.ensures ∙ ap addresses_of c.links.ensures) c.in_ok-rows.ensures.bytes c.in_ok-append_linked_text.ensures

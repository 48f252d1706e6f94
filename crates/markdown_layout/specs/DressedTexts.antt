-- Texts that were read, with what stands beside their headings.
use Rattle.std.specs.Prelude.{List, map}
use Rattle.mad_sections.specs.Sections.{SectionContent}
use Rattle.mad_dressing.specs.Dressed.{dressed_by_each, put_of}
use Rattle.markdown_reader.specs.MarkdownSays.{markdown_says}
use Rattle.markdown_layout.specs.declared.dressed_markdown.DressedMarkdown.{DressedMarkdown}

-- what it says: its sections, with what is put into its page with each
abbrev pub dressed_says : DressedMarkdown → List SectionContent
dressed_says text = dressed_by_each (map put_of text.dressings.items) (markdown_says text.markdown)

use Rattle.std.proofs.Common.{ℕ, List, Option, ap, option_map, map, sym, ◌∙◌}
use Rattle.std.specs.Prelude.{slice_index}
use Rattle.markdown_headings.specs.HeadingsSaid.{name_said, section_of}
use Rattle.markdown_headings.specs.declared.naming.Heading.{Heading}
use Rattle.markdown_reader.specs.Anchors.{anchor_said}
use Rattle.markdown_reader.specs.declared.anchors.Anchor.{Anchor}
use Rattle.markdown_reader.specs.MarkdownSays.{markdown_says}
use Rattle.mad_outline.specs.Sources.{TextSaid, links_of, text_said}
use Rattle.mad_pager.specs.Following.{section_led, target_row}
use Rattle.mad_pager.proofs.FollowLemmas.{section_is}
use Rattle.mad_pager.proofs.session.Session.target_row.Goals as goal

pub returns-in_ok-found-in-Markdown : goal.returns-in_ok-found-in-Markdown
returns-in_ok-found-in-Markdown c =
    let m = c.in-Markdown.markdown.now in
    let anchors = c.in_ok-anchors-in-Markdown.anchors.items in
    let headings = c.in_ok-headings-in-Markdown.headings.items in
    let name = c.args.name.now in
    let starts = c.args.self.now.laid.starts.items in
    let found = c.in_ok-found-in-Markdown.found in
    c.row_of.ensures ∙ ap (λ (l : List ℕ). option_map (slice_index l) found) c.as_slice-in-Markdown-2.ensures.value
    ∙ ap (λ (o : Option ℕ). option_map (slice_index starts) o)
    (section_is (links_of m c.in-Markdown.source.now) (markdown_says m) (map anchor_said anchors) headings name found c.in_ok-anchors-in-Markdown.ensures c.in_ok-headings-in-Markdown.ensures.headings
    (c.in_ok-found-in-Markdown.ensures ∙ ap (λ (l : List Anchor). section_led (map anchor_said l) (map name_said c.as_slice-in-Markdown.result.now) (map section_of c.as_slice-in-Markdown.result.now) name) c.as_slice.ensures.value
    ∙ ap (λ (l : List Heading). section_led (map anchor_said anchors) (map name_said l) (map section_of l) name) c.as_slice-in-Markdown.ensures.value))
    ∙ ap (λ (t : TextSaid). target_row t name starts) (ap text_said (sym c.in-Markdown.is) ∙ c.paged.ensures)

use Rattle.std.proofs.Common.{ℕ, List, ap, sym, ◌∙◌}
use Rattle.markdown_reader.specs.MarkdownSays.{LinkSaid, links_said}
use Rattle.mad_outline.specs.LinkLists.{nth_from}
use Rattle.mad_outline.specs.Sources.{text_said}
use Rattle.mad_search.specs.declared.paged.PagedText.{PagedText}
use Rattle.mad_pager.specs.Following.{link_on_screen}
use Rattle.mad_pager.specs.Sessions.{state_of}
use Rattle.mad_pager.proofs.session.Session.link_on_screen.Goals as goal

pub returns-in-Markdown : goal.returns-in-Markdown
returns-in-Markdown c =
    let s = state_of c.args.self.now in
    let number = c.args.number in
    let shown = c.sections_shown-from.result in
    c.nth_link.ensures
    ∙ ap (λ (l : List LinkSaid). nth_from shown.0 shown.1 number 0 l) c.links.ensures
    ∙ ap (λ (n : ℕ × ℕ). nth_from n.0 n.1 number 0 (links_said c.in-Markdown.markdown.now)) c.sections_shown-from.ensures
    ∙ ap (λ (t : PagedText). link_on_screen (text_said t) s number) (sym c.in-Markdown.is)

pub returns-in-Lines : goal.returns-in-Lines
returns-in-Lines c = ap (λ (t : PagedText). link_on_screen (text_said t) (state_of c.args.self.now) c.args.number) (sym c.in-Lines.is)

pub returns-in-Plain : goal.returns-in-Plain
returns-in-Plain c = ap (λ (t : PagedText). link_on_screen (text_said t) (state_of c.args.self.now) c.args.number) (sym c.in-Plain.is)

use Rattle.std.proofs.Common.{ap, refl, sym, ◌∙◌}
use Rattle.mad_outline.specs.Sources.{TextSaid, links_of, text_said}
use Rattle.mad_search.specs.declared.paged.PagedText.TheVariants.{Markdown}
use Rattle.markdown_reader.specs.MarkdownSays.{markdown_says}
use Rattle.mad_pager.specs.Pagers.{links_page}
use Rattle.mad_pager.specs.Sessions.{state_of}
use Rattle.mad_pager.proofs.PagerSteps.{links_along}
use Rattle.mad_pager.proofs.session.Session.links.Goals as goal

pub returns-in-Lines : goal.returns-in-Lines
returns-in-Lines c = ap (λ (t : TextSaid). links_page t (state_of c.args.self.now)) (ap text_said (sym c.in-Lines.is) ∙ c.paged.ensures)

pub returns-in-Plain : goal.returns-in-Plain
returns-in-Plain c = ap (λ (t : TextSaid). links_page t (state_of c.args.self.now)) (ap text_said (sym c.in-Plain.is) ∙ c.paged.ensures)

pub returns-in-Markdown : goal.returns-in-Markdown
returns-in-Markdown c =
    let s = state_of c.args.self.now in
    links_along (text_said (Markdown c.in-Markdown.markdown c.in-Markdown.field-1 c.in-Markdown.source)) (links_of c.in-Markdown.markdown.now c.in-Markdown.source.now) s (markdown_says c.in-Markdown.markdown.now) c.sections_shown-from.result refl c.sections_shown-from.ensures
    ∙ ap (λ (t : TextSaid). links_page t s) (ap text_said (sym c.in-Markdown.is) ∙ c.paged.ensures)

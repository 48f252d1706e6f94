use Rattle.std.proofs.Common.{List, ap, sym, ◌∙◌}
use Rattle.markdown_reader.specs.MarkdownSays.{LinkSaid}
use Rattle.mad_outline.specs.LinkLists.{nth_from}
use Rattle.mad_outline.specs.Sources.{content_of}
use Rattle.mad_outline.specs.declared.sources.Source.{Source}
use Rattle.mad_pager.specs.Following.{chosen_link}
use Rattle.mad_pager.specs.Sessions.{state_of}
use Rattle.mad_pager.proofs.session.Session.chosen_link.Goals as goal

pub returns-in-Numbered : goal.returns-in-Numbered
returns-in-Numbered c = c.link_on_screen.ensures ∙ ap (λ (o : Source). chosen_link (content_of o) (state_of c.args.self.now)) (sym c.in-Numbered.is)

pub returns-in-Links : goal.returns-in-Links
returns-in-Links c =
    c.nth_link.ensures ∙ ap (λ (l : List LinkSaid). nth_from c.in-Links.from c.in-Links.to c.args.self.now.page.count 0 l) c.links.ensures
    ∙ ap (λ (o : Source). chosen_link (content_of o) (state_of c.args.self.now)) (sym c.in-Links.is)

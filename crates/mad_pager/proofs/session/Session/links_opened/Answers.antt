use Rattle.mad_outline.specs.Sources.{content_of, said_of, text_said}
use Rattle.mad_pager.specs.Sessions.{state_of}
use Rattle.mad_pager.proofs.FollowLemmas.{opened_none, opened_some}
use Rattle.mad_pager.proofs.session.Session.links_opened.Goals as goal

pub returns-in-Some : goal.returns-in-Some
returns-in-Some c = opened_some (text_said c.paged-text.result) (said_of (content_of c.args.self.now.source)) (state_of c.args.self.now) c.link_on_screen.result _ c.paged-text.ensures c.link_on_screen.ensures c.in-Some.is

pub returns-in-None : goal.returns-in-None
returns-in-None c =
    opened_none (text_said c.paged-text.result) (said_of (content_of c.args.self.now.source)) (state_of c.args.self.now) c.link_on_screen.result (content_of c.links.result) c.paged-text.ensures c.link_on_screen.ensures c.in-None.is c.links.ensures

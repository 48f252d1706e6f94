use Rattle.std.proofs.Common.{refl}
use Rattle.mad_outline.specs.Sources.{content_of, said_of}
use Rattle.mad_pager.specs.Pagers.{leaf_of, links_opened}
use Rattle.mad_pager.specs.Sessions.{state_of}
use Rattle.mad_pager.proofs.FollowLemmas.{links_started}
use Rattle.mad_pager.proofs.pager.Pager.links_over.Goals as goal

pub returns : goal.returns
returns c =
    let text = c.args.self.now.text in
    links_started (links_opened (said_of (content_of text.source)) (state_of text)) (content_of c.links_opened-source.result) c.opened_name.result.now (leaf_of text) (leaf_of c.in_ok-over.over) _ c.top_of-over.result c.links_opened-source.ensures c.opened_name.ensures
    c.in_ok-over.ensures c.top_of-over.ensures refl

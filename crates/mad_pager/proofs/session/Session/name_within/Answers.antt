use Rattle.std.proofs.Common.{ap, ◌∙◌}
use Rattle.mad_pager.specs.Following.{name_within}
use Rattle.mad_pager.proofs.FollowLemmas.{name_stripped}
use Rattle.mad_pager.proofs.session.Session.name_within.Goals as goal

pub returns : goal.returns
returns c = name_stripped c.address_of.result.now c.strip_prefix.result c.strip_prefix.ensures.cases ∙ ap name_within c.address_of.ensures

use Rattle.mad_pager.proofs.FollowLemmas.{name_stripped}
use Rattle.termimad_page.proofs.call.named_place.Goals as goal

pub returns : goal.returns
returns c = name_stripped c.args.word.now c.strip_prefix.result c.strip_prefix.ensures.cases

use Rattle.std.proofs.Common.{ap, option_map}
use Rattle.mad_pager.specs.Pagers.{leaf_of}
use Rattle.mad_pager.proofs.PagerOrder.{named_view}
use Rattle.mad_pager.proofs.pager.Pager.begin_at_name.Goals as goal

pub returns-in_ok-go_to_name : goal.returns-in_ok-go_to_name
returns-in_ok-go_to_name c =
    named_view c.args.self.now.text c.go_to_name.new.self (option_map leaf_of c.args.self.now.over) (option_map (λ name. name.now) c.args.name) c.in-Some.name.now (ap (option_map (λ name. name.now)) c.in-Some.is)
    c.in_ok-go_to_name.ensures.state c.in_ok-go_to_name.ensures.text

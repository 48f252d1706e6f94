use Rattle.mad_outline.specs.Sources.{content_of, said_of}
use Rattle.mad_pager.specs.Sessions.{state_of}
use Rattle.mad_pager.proofs.FollowLemmas.{followed_elsewhere, followed_named, turn_elsewhere, turn_named}
use Rattle.mad_pager.proofs.session.Session.follow.Goals as goal

pub returns-in_ok-go_to_name-in-Some-clause-step : goal.returns-in_ok-go_to_name-in-Some-clause-step
returns-in_ok-go_to_name-in-Some-clause-step c =
    followed_named (λ n. n.now) c.name_within.result c.in-Some.name c.args.index (said_of (content_of c.args.self.now.source)) (state_of c.args.self.now) (state_of c.go_to_name.new.self) c.name_within.ensures c.in-Some.is
    c.in_ok-go_to_name-in-Some.ensures.state

pub returns-in_ok-go_to_name-in-Some-clause-turn : goal.returns-in_ok-go_to_name-in-Some-clause-turn
returns-in_ok-go_to_name-in-Some-clause-turn c = turn_named (λ n. n.now) c.name_within.result c.in-Some.name c.args.index (said_of (content_of c.args.self.now.source)) (state_of c.args.self.now) c.name_within.ensures c.in-Some.is

pub returns-in-None-clause-step : goal.returns-in-None-clause-step
returns-in-None-clause-step c = followed_elsewhere (λ n. n.now) c.name_within.result c.args.index (said_of (content_of c.args.self.now.source)) (state_of c.args.self.now) c.name_within.ensures c.in-None.is

pub returns-in-None-clause-turn : goal.returns-in-None-clause-turn
returns-in-None-clause-turn c =
    turn_elsewhere (λ n. n.now) c.name_within.result c.args.index c.row_number.result (said_of (content_of c.args.self.now.source)) (state_of c.args.self.now) c.name_within.ensures c.in-None.is c.row_number.ensures

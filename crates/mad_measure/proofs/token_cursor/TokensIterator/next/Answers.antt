use Rattle.std.proofs.Common.{subst, length, ◌<◌}
use Rattle.mad_measure.specs.TokensLeft.{AreTokensLeft, bytes_left}
use Rattle.mad_measure.proofs.CursorLemmas.{came, came_alone, border_there, text_there, fewer_bytes}
use Rattle.mad_measure.proofs.token_cursor.TokensIterator.next.Goals as goal

pub returns-in_err-at-clause-steps : goal.returns-in_err-at-clause-steps
unfolding AreTokensLeft
returns-in_err-at-clause-steps c =
    let none = c.in_err-at.ensures.none c.args.self.now.max in
    rw c.from_residual.ensures (none, none)

pub token_from-token-requires : goal.token_from-token-requires
token_from-token-requires c = record {
  inside = subst (λ bs. c.in_ok-at.start < length bs) (text_there _ _ _ c.in_ok-at.ensures.inside.0) c.in_ok-at.ensures.inside.1;
  border = border_there _ _ _ _ c.in_ok-at.ensures.inside.0 c.in_ok-at.ensures.same.border;
}

pub returns-clause-steps : goal.returns-clause-steps
unfolding AreTokensLeft
returns-clause-steps c = record {
  within = c.token_from-token.ensures.within;
  tokens = came _ _ _ _ _ _ _ _ c.in_ok-at.ensures.inside.0 c.in_ok-at.ensures.same c.token_from-token.ensures;
  all = came_alone _ _ _ _ _ _ _ _ c.in_ok-at.ensures.inside.0 c.in_ok-at.ensures.same c.in_ok-at.ensures.inside.1 c.token_from-token.ensures;
}

pub returns-clause-goes : goal.returns-clause-goes
unfolding bytes_left
returns-clause-goes c =
    record { on = λ finite. (tt, finite, fewer_bytes _ _ _ _ _ _ _ _ c.in_ok-at.ensures.inside.0 c.in_ok-at.ensures.same c.token_from-token.ensures); keeps = tt; rests = λ _. tt }

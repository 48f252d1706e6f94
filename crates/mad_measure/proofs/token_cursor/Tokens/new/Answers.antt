use Rattle.mad_measure.specs.TokensLeft.{AreTokensLeft}
use Rattle.mad_measure.proofs.CursorLemmas.{from_start, to_start}
use Rattle.mad_measure.proofs.token_cursor.Tokens.new.Goals as goal

pub returns-clause-tokens : goal.returns-clause-tokens
unfolding AreTokensLeft
returns-clause-tokens c ts h = from_start _ _ _ h

pub returns-clause-all : goal.returns-clause-all
unfolding AreTokensLeft
returns-clause-all c ts h = to_start _ _ _ h

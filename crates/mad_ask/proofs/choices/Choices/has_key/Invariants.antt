use Rattle.std.proofs.Common.{◌≡◌, drop}
use Rattle.mad_ask.specs.Offers.{is_key, offered_by}
use Rattle.mad_ask.proofs.KeyLemmas.{have_key}
use Rattle.mad_ask.proofs.choices.Choices.has_key.Given as goal

abbrev pub invariant-loop-answer : goal.invariant-loop-answer
invariant-loop-answer l = have_key l.key (drop l.answer-index l.answer-items) ≡ is_key (offered_by l.self) l.key

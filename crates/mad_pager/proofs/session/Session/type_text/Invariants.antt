use Rattle.std.proofs.Common.{◌≡◌}
use Rattle.mad_pager.specs.Sessions.{state_of, text_typed, HasSameText}
use Rattle.mad_pager.proofs.session.Session.type_text.Given as goal

-- the characters so far are typed
abbrev pub invariant-loop-c : goal.invariant-loop-c
invariant-loop-c l = (state_of l.self ≡ text_typed l.yielded (state_of l.initial.self)) × HasSameText l.initial.self l.self

use Rattle.std.proofs.Common.{◌≡◌, ℕ, List, sym, ◌∙◌, ap}
use Rattle.std.specs.Str.{chars}
use Rattle.std.proofs.lemmas.Iterator.{YieldsList-from_chars}
use Rattle.std.proofs.lemmas.Iterator.Consumers.{YieldsList-end}
use Rattle.std.proofs.lemmas.List.{map-id}
use Rattle.mad_pager.specs.Sessions.{state_of, text_typed}
use Rattle.mad_pager.proofs.StepLemmas.{same_typed}
use Rattle.mad_pager.proofs.session.Session.type_text.Goals as goal

pub loop-c-preserved : goal.loop-c-preserved
loop-c-preserved c = same_typed _ _ _ _ c.loop-c.yielded c.in-Some.c c.char_key.ensures c.loop-c.invariant c.in_ok-type_char.ensures.done c.in_ok-type_char.ensures.text

pub returns-clause-done : goal.returns-clause-done
returns-clause-done c =
    let all : c.loop-c.yielded ≡ chars c.args.text.now =
    sym (map-id c.loop-c.yielded) ∙ (YieldsList-end (YieldsList-from_chars c.args.text.now c.utf8.text cc) c.loop-c.yielded _ c.loop-c.yielded_by _ _ c.in-None.is c.next.ensures.steps).0 in
    c.loop-c.invariant.0 ∙ ap (λ (l : List ℕ). text_typed l (state_of c.args.self.now)) all

pub returns-clause-text : goal.returns-clause-text
returns-clause-text c = c.loop-c.invariant.1

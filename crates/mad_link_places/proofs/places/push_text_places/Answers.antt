use Rattle.std.proofs.Common.{◌≡◌, ◌++◌, ℕ, List, ap, sym, ◌∙◌}
use Rattle.std.specs.Str.{chars}
use Rattle.std.proofs.lemmas.Iterator.{YieldsList-from_chars}
use Rattle.std.proofs.lemmas.Iterator.Consumers.{YieldsList-end}
use Rattle.std.proofs.lemmas.List.{map-id}
use Rattle.mad_link_places.specs.LinkPlaces.{text_places, text_walked}
use Rattle.mad_link_places.proofs.places.push_text_places.Goals as goal

pub returns-clause-places : goal.returns-clause-places
returns-clause-places c =
    let all : c.loop-c.yielded ≡ chars c.args.text.now =
    sym (map-id c.loop-c.yielded) ∙ (YieldsList-end (YieldsList-from_chars c.args.text.now c.utf8.text cc) c.loop-c.yielded _ c.loop-c.yielded_by _ _ c.in-None.is c.next.ensures.steps).0 in
    let spot = c.args.spot in
    c.loop-c.invariant.places ∙ ap (λ (cs : List ℕ). c.args.places.now.items ++ text_places spot.marks.now spot.before spot.row c.args.linked c.args.walk.now cs) all

pub returns-clause-walk : goal.returns-clause-walk
returns-clause-walk c =
    let all : c.loop-c.yielded ≡ chars c.args.text.now =
    sym (map-id c.loop-c.yielded) ∙ (YieldsList-end (YieldsList-from_chars c.args.text.now c.utf8.text cc) c.loop-c.yielded _ c.loop-c.yielded_by _ _ c.in-None.is c.next.ensures.steps).0 in
    c.loop-c.invariant.walk ∙ ap (λ (cs : List ℕ). text_walked c.args.spot.marks.now c.args.linked c.args.walk.now cs) all

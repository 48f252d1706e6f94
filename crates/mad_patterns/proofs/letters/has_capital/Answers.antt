use Rattle.std.proofs.Common.{◌≡◌, List, ℕ, ap, refl, sym, ◌∙◌, false}
use Rattle.std.specs.Str.{chars}
use Rattle.std.proofs.lemmas.Iterator.{YieldsList-from_chars}
use Rattle.std.proofs.lemmas.Iterator.Consumers.{YieldsList-end}
use Rattle.std.proofs.lemmas.List.{map-id}
use Rattle.mad_patterns.specs.Capitals.{capital_in}
use Rattle.mad_patterns.proofs.LetterLemmas.{capital_more}
use Rattle.mad_patterns.proofs.letters.has_capital.Goals as goal

pub loop-c-init : goal.loop-c-init
loop-c-init c = record { has = refl; behind = refl }

pub loop-c-preserved : goal.loop-c-preserved
loop-c-preserved c = capital_more c.loop-c.yielded c.in-Some.c c.loop-c.has_one c.loop-c.is_behind c.counts-has_one.result c.hides_next-is_behind.result _ c.loop-c.invariant c.counts-has_one.ensures c.hides_next-is_behind.ensures refl

pub returns : goal.returns
returns c =
    let all : c.loop-c.yielded ≡ chars c.args.text.now =
    sym (map-id c.loop-c.yielded) ∙ (YieldsList-end (YieldsList-from_chars c.args.text.now c.utf8.text cc) c.loop-c.yielded _ c.loop-c.yielded_by _ _ c.in-None.is c.next.ensures.steps).0 in
    c.loop-c.invariant.has ∙ ap (λ (cs : List ℕ). capital_in false cs) all

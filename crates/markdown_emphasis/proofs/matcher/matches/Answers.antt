use Rattle.std.proofs.Common.{◌≡◌, ◌≤◌, List, length, sym, subst, ◌∙◌, arith}
use Rattle.std.proofs.lemmas.List.{at_drop_all}
use Rattle.std.proofs.lemmas.List.Elements.{All-same}
use Rattle.markdown_emphasis.specs.Matching.{matches, matches_from}
use Rattle.markdown_emphasis.specs.Pairs.{IsWithin}
use Rattle.markdown_emphasis.specs.Matchers.{matching_of}
use Rattle.markdown_emphasis.specs.Left.{HasEnough}
use Rattle.markdown_emphasis.specs.declared.runs.Pair.{Pair}
use Rattle.markdown_emphasis.proofs.PairLemmas.{matches_within}
use Rattle.markdown_emphasis.proofs.SettleLemmas.{matches_exhaust}
use Rattle.markdown_emphasis.proofs.matcher.matches.Goals as goal

pub returns-clause-within : goal.returns-clause-within
returns-clause-within c =
    let over : length c.args.runs.now ≤ c.loop-place.place = omega arith in
    let matched : c.loop-place.matcher.pairs.items ≡ matches c.args.runs.now = sym (at_drop_all (matches_from (matching_of c.loop-place.matcher) c.loop-place.place) c.args.runs.now c.loop-place.place over) ∙ c.loop-place.invariant.matched in
    All-same (IsWithin (length c.args.runs.now)) c.loop-place.matcher.pairs.items (matches c.args.runs.now) matched (matches_within c.args.runs.now)

pub returns-clause-enough : goal.returns-clause-enough
returns-clause-enough c =
    let over : length c.args.runs.now ≤ c.loop-place.place = omega arith in
    let matched : c.loop-place.matcher.pairs.items ≡ matches c.args.runs.now = sym (at_drop_all (matches_from (matching_of c.loop-place.matcher) c.loop-place.place) c.args.runs.now c.loop-place.place over) ∙ c.loop-place.invariant.matched in
    subst (λ (pairs : List Pair). HasEnough c.args.runs.now pairs) (sym matched) (matches_exhaust c.args.runs.now).enough

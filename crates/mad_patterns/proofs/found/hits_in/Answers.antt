use Rattle.std.proofs.Common.{◌≡◌, map, ap}
use Rattle.std.proofs.lemmas.Iterator.Consumers.{YieldsList-end, YieldsList-from_first}
use Rattle.regex.specs.Strings.{matcher_pattern, matches_haystack, placed_span, placed_spans_left, regex_pattern, spans_left}
use Rattle.mad_patterns.proofs.FoundLemmas.{hit_more, hits_found}
use Rattle.mad_patterns.proofs.found.hits_in.Goals as goal

pub loop-hit-preserved : goal.loop-hit-preserved
loop-hit-preserved c = hit_more _ _ c.loop-hit.yielded c.in-Some.hit c.start.result c.end.result c.loop-hit.invariant c.start.ensures c.end.ensures c.in_ok-push_hit.ensures

pub returns : goal.returns
returns c =
    let found = c.find_iter-hit-items.result in
    let same : placed_spans_left c.into_iter-hit-iterator.result ≡ placed_spans_left found = ap placed_spans_left c.into_iter-hit-iterator.ensures.into_iter_gives in
    let all : map placed_span c.loop-hit.yielded ≡ placed_spans_left found =
    (YieldsList-end (YieldsList-from_first placed_span placed_spans_left (placed_spans_left found) same) c.loop-hit.yielded _ c.loop-hit.yielded_by _ c.next.new.self c.in-None.is c.next.ensures.steps).0 in
    hits_found (regex_pattern c.args.sought.now) (matcher_pattern c.in_ok-matcher.matcher) c.args.text.now (matches_haystack found) c.loop-hit.yielded _ (spans_left found) c.loop-hit.invariant all c.find_iter-hit-items.ensures.within
    c.find_iter-hit-items.ensures.found c.in_ok-matcher.ensures.pattern

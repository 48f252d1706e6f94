use Rattle.std.proofs.Common.{◌≡◌, true, false, arith, sym, ◌∙◌}
use Rattle.regex.specs.Strings.{regex_pattern}
use Rattle.mad_patterns.proofs.SearchLemmas.{none_yet, none_more, none_after_all}
use Rattle.mad_patterns.proofs.search.first_row.Goals as goal

pub loop-row-init : goal.loop-row-init
loop-row-init c = record { same = c.in_ok-matcher.ensures.pattern; known = c.new-known.ensures (regex_pattern c.args.sought.now) c.args.lines.now; none = none_yet _ _ _ _ }

pub returns-then-has : goal.returns-then-has
returns-then-has c = record { within = omega arith; has = c.in_ok-has.ensures.has.0 c.if-has.true; none_before = c.loop-row.invariant.none }

pub loop-row-preserved : goal.loop-row-preserved
loop-row-preserved c = record {
  same = c.in_ok-has.ensures.same;
  known = c.in_ok-has.ensures.known;
  none = none_more _ _ _ _ _ c.loop-row.invariant.none (λ h. let e : false ≡ true = sym c.if-has.false ∙ c.in_ok-has.ensures.has.1 h in absurd (cc));
}

pub returns : goal.returns
returns c = none_after_all _ _ _ _ _ c.loop-row.invariant.none (omega arith)

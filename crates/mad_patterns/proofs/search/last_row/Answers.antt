use Rattle.std.proofs.Common.{◌≡◌, true, false, arith, sym, ◌∙◌}
use Rattle.regex.specs.Strings.{regex_pattern}
use Rattle.mad_patterns.proofs.SearchLemmas.{none_yet, none_before}
use Rattle.mad_patterns.proofs.search.last_row.Goals as goal

pub rows-init : goal.rows-init
rows-init c = record {
  inside = omega arith;
  before = omega arith;
  same = c.in_ok-matcher.ensures.pattern;
  known = c.new-known.ensures (regex_pattern c.args.sought.now) c.args.lines.now;
  none = none_yet _ _ _ _;
}

pub returns-then-has : goal.returns-then-has
returns-then-has c = record { within = omega arith; has = c.in_ok-has.ensures.has.0 c.if-has.true; none_after = λ r low high. c.rows.invariant.none r (omega arith) high }

pub rows-preserved : goal.rows-preserved
rows-preserved c = record {
  inside = omega arith;
  before = omega arith;
  same = c.in_ok-has.ensures.same;
  known = c.in_ok-has.ensures.known;
  none = none_before _ _ _ _ _ _ (omega arith) c.rows.invariant.none (λ h. let e : false ≡ true = sym c.if-has.false ∙ c.in_ok-has.ensures.has.1 h in absurd (cc));
}

pub returns : goal.returns
returns c = λ r low high. c.rows.invariant.none r (omega arith) high

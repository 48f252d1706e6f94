use Rattle.std.proofs.Common.{◌≡◌, ℕ, ◌+◌, ◌<◌, List, get_or, set, take, reverse, ap, sym, subst, ◌∙◌, arith}
use Rattle.markdown_emphasis.specs.declared.runs.Mark.{Mark}
use Rattle.markdown_emphasis.specs.Matching.{Closing, nearest, less, pair_with, close_once, close_run}
use Rattle.markdown_emphasis.specs.Keys.{key_of, IsBottom, AreBottoms}
use Rattle.markdown_emphasis.specs.Matchers.{closing_of}
use Rattle.markdown_emphasis.proofs.BottomLemmas.{bottoms_pair, bottoms_set}
use Rattle.markdown_emphasis.proofs.ClosingLemmas.{once-some, once-none, run_once, run_done, run_closes}
use Rattle.markdown_emphasis.proofs.matcher.Matcher.close_run.Goals as goal

pub returns-then-not-run-clause-closed : goal.returns-then-not-run-clause-closed
returns-then-not-run-clause-closed c = sym (run_closes (closing_of c.args.self.now (record { place = c.args.place; run = c.args.run; left = c.args.run.count })) c.if-not-run.true)

pub nearest-requires : goal.nearest-requires
nearest-requires c =
    subst (λ (k : ℕ). IsBottom (get_or c.loop-left.self.bottoms k 0) c.args.run (reverse c.loop-left.self.openers.items)) (sym c.key_of-key.ensures.value) (c.loop-left.invariant.bottoms.none c.args.run)

pub loop-left-preserved : goal.loop-left-preserved
loop-left-preserved c =
    let before : Closing = closing_of c.loop-left.self (record { place = c.args.place; run = c.args.run; left = c.loop-left.left }) in
    let found : nearest c.args.run before.openers ≡ reverse (take (c.in-Some.index + 1) c.loop-left.self.openers.items) = c.in-Some.ensures.nearest in
    let after : Closing = closing_of c.pair_with.new.self (less c.in_ok-left-in-Some.field-0 before.closer) in
    let paired : after ≡ pair_with (nearest c.args.run before.openers) before = c.in_ok-left-in-Some.ensures.paired ∙ ap (λ l. pair_with l before) (sym found) in
    let once : after ≡ close_once before = paired ∙ sym (once-some before c.loop-left-test.true) in
    record {
      closed = ap close_run once ∙ run_once before ∙ c.loop-left.invariant.closed;
      bottoms = subst (λ (l : List ℕ). AreBottoms c.args.place l after.openers) (sym c.in_ok-left-in-Some.ensures.bottoms)
          (subst (λ (os : List Mark). AreBottoms c.args.place c.loop-left.self.bottoms os) (sym (ap (λ (x : Closing). x.openers) paired))
          (bottoms_pair c.args.place c.loop-left.self.bottoms before c.loop-left.invariant.bottoms));
    }

pub returns-in-None-clause-closed : goal.returns-in-None-clause-closed
returns-in-None-clause-closed c =
    let before : Closing = closing_of c.loop-left.self (record { place = c.args.place; run = c.args.run; left = c.loop-left.left }) in
    sym (run_done before (once-none before c.in-None.ensures)) ∙ c.loop-left.invariant.closed

pub returns-in-None-clause-bottoms : goal.returns-in-None-clause-bottoms
returns-in-None-clause-bottoms c =
    let os : List Mark = reverse c.loop-left.self.openers.items in
    let within : key_of c.args.run.sign c.args.run < 16 = omega (arith, c.key_of-key.ensures.value, c.key_of-key.ensures.within) in
    subst (λ (k : ℕ). AreBottoms c.args.place (set c.loop-left.self.bottoms k c.args.place) os) (sym c.key_of-key.ensures.value)
    (bottoms_set c.args.place c.loop-left.self.bottoms c.args.run os within c.if-not-run.false c.in-None.ensures c.loop-left.invariant.bottoms)

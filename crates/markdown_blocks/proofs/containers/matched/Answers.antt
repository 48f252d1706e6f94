use Rattle.std.proofs.Common.{◌≡◌, ◌∙◌, drop, sym, ap, arith}
use Rattle.std.proofs.lemmas.List.{drop_all}
use Rattle.markdown_marks.specs.Remaining.{remaining}
use Rattle.markdown_blocks.specs.Containers.{Matched, matched}
use Rattle.markdown_blocks.proofs.ContainerLemmas.{matched_nil}
use Rattle.markdown_blocks.proofs.containers.matched.Goals as goal

pub loop-count-preserved : goal.loop-count-preserved
loop-count-preserved c =
    let more = c.in-Some.ensures in
    let count = ap (λ (m : Matched). m.count) more in
    record {
      counted = omega (arith, count, c.loop-count.invariant.counted);
      follows = sym (ap (λ (m : Matched). m.rest) more) ∙ c.loop-count.invariant.follows;
      within = omega arith;
    }

pub returns-in-None-clause-count : goal.returns-in-None-clause-count
returns-in-None-clause-count c =
    let count = ap (λ (m : Matched). m.count) c.in-None.ensures in
    omega (arith, count, c.loop-count.invariant.counted)

pub returns-in-None-clause-rest : goal.returns-in-None-clause-rest
returns-in-None-clause-rest c = sym (ap (λ (m : Matched). m.rest) c.in-None.ensures) ∙ c.loop-count.invariant.follows

pub returns-clause-count : goal.returns-clause-count
returns-clause-count c =
    let none : matched c.args.bare (drop c.loop-count.count c.args.containers.now) (remaining c.loop-count.left) ≡ record { count = 0; rest = remaining c.loop-count.left }
    = ap (λ cs. matched c.args.bare cs (remaining c.loop-count.left)) (drop_all c.loop-count.count c.args.containers.now (omega arith)) ∙ matched_nil c.args.bare (remaining c.loop-count.left) in
    let count = ap (λ (m : Matched). m.count) none in
    omega (arith, count, c.loop-count.invariant.counted)

pub returns-clause-rest : goal.returns-clause-rest
returns-clause-rest c =
    let none : matched c.args.bare (drop c.loop-count.count c.args.containers.now) (remaining c.loop-count.left) ≡ record { count = 0; rest = remaining c.loop-count.left }
    = ap (λ cs. matched c.args.bare cs (remaining c.loop-count.left)) (drop_all c.loop-count.count c.args.containers.now (omega arith)) ∙ matched_nil c.args.bare (remaining c.loop-count.left) in
    sym (ap (λ (m : Matched). m.rest) none) ∙ c.loop-count.invariant.follows

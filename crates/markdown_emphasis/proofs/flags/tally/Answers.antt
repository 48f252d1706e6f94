use Rattle.std.proofs.Common.{◌≡◌, ℕ, ◌<◌, get_or, refl, ◌∙◌, arith}
use Rattle.std.proofs.lemmas.List.{length-set}
use Rattle.markdown_emphasis.proofs.FlagLemmas.{read_at, tally_step, at_small}
use Rattle.markdown_emphasis.proofs.flags.tally.Goals as goal

pub overflow_add-index_mut : goal.overflow_add-index_mut
overflow_add-index_mut c =
    let n : ℕ = get_or c.args.numbers.now c.loop-number.number-index 0 in
    let small : n < c.args.bound = c.requires c.loop-number.number-index 0 c.loop-number-test.true in
    let read : c.index_mut.result.now ≡ get_or c.loop-number.counts.items n 0 =
    read_at c.loop-number.counts.items n 0 c.index_mut.result.now _ (omega (arith, c.loop-number.invariant.size)) c.index_mut.ensures.value refl in
    omega (arith, read, c.loop-number.invariant.counts n small, at_small n c.loop-number.number-index c.args.numbers.now)

pub loop-number-preserved : goal.loop-number-preserved
loop-number-preserved c =
    let n : ℕ = get_or c.args.numbers.now c.loop-number.number-index 0 in
    let small : n < c.args.bound = c.requires c.loop-number.number-index 0 c.loop-number-test.true in
    let read : c.index_mut.result.now ≡ get_or c.loop-number.counts.items n 0 =
    read_at c.loop-number.counts.items n 0 c.index_mut.result.now _ (omega (arith, c.loop-number.invariant.size)) c.index_mut.ensures.value refl in
    record {
      size = length-set c.loop-number.counts.items _ _ ∙ c.loop-number.invariant.size;
      counts = λ k within. tally_step c.loop-number.counts.items c.args.numbers.now c.args.bound c.loop-number.number-index c.index_mut.result.now k
          c.loop-number.invariant.size c.loop-number-test.true small c.loop-number.invariant.counts read within;
    }

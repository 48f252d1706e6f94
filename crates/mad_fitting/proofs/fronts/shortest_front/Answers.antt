use Rattle.std.proofs.Common.{ap, length, sym, ◌∙◌, arith, refl, inl, inr}
use Rattle.std.specs.Str.Iter.{char_indices_offset}
use Rattle.mad_fitting.proofs.FrontLemmas.{read_start, read_more, front_read, stops_at_end, no_longer_at}
use Rattle.mad_fitting.proofs.fronts.shortest_front.Goals as goal

pub loop-index-init : goal.loop-index-init
loop-index-init c =
    let zero = c.char_indices-index-items.ensures.offset in
    let all = c.char_indices-index-items.ensures.rest in
    rw c.into_iter-index-iterator.ensures.into_iter_gives (record {
      read = rw zero (read_start c.args.text.now c.utf8.text);
      position = rw zero (sym all);
      shortest = inl zero;
    })

pub loop-index-preserved : goal.loop-index-preserved
loop-index-preserved c =
    let held = c.loop-index.invariant in
    let step = c.in-Some.ensures.steps in
    let more = read_more _ _ _ _ c.in-Some.c _ _ held.read (held.position ∙ step.1) step.2 c.char_columns-columns.ensures.value c.char_columns-columns.ensures.bytes in
    record { read = more.0; position = more.1; shortest = inr (_, c.in-Some.c, more.2, omega (arith, held.read.counts, c.if-columns-least.false)) }

pub returns-then-columns-least-clause-front : goal.returns-then-columns-least-clause-front
returns-then-columns-least-clause-front c = front_read _ _ _ _ c.loop-index.invariant.read (rw c.in-Some.ensures.steps.0 refl)

pub returns-then-columns-least-clause-shortest : goal.returns-then-columns-least-clause-shortest
returns-then-columns-least-clause-shortest c = rw c.in-Some.ensures.steps.0 c.loop-index.invariant.shortest

pub returns-clause-front : goal.returns-clause-front
returns-clause-front c =
    let held = c.loop-index.invariant in
    (stops_at_end 0 _ _ _ _ held.read (ap length held.position ∙ c.in-None.ensures.steps.0) refl).1

pub returns-clause-shortest : goal.returns-clause-shortest
returns-clause-shortest c =
    let held = c.loop-index.invariant in
    no_longer_at c.args.least c.args.text.now (char_indices_offset c.loop-index.index-iterator) c.loop-index.columns c.loop-index.columns held.read (ap length held.position ∙ c.in-None.ensures.steps.0) held.shortest

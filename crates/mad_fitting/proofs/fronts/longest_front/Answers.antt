use Rattle.std.proofs.Common.{ap, length, sym, ◌∙◌, arith, refl}
use Rattle.mad_fitting.proofs.FrontLemmas.{read_start, read_more, front_read, stops_before, stops_at_end}
use Rattle.mad_fitting.proofs.fronts.longest_front.Goals as goal

pub loop-index-init : goal.loop-index-init
loop-index-init c =
    let zero = c.char_indices-index-items.ensures.offset in
    let all = c.char_indices-index-items.ensures.rest in
    rw c.into_iter-index-iterator.ensures.into_iter_gives (record {
      read = rw zero (read_start c.args.text.now c.utf8.text);
      position = rw zero (sym all);
      fits = omega arith;
    })

pub loop-index-preserved : goal.loop-index-preserved
loop-index-preserved c =
    let held = c.loop-index.invariant in
    let step = c.in-Some.ensures.steps in
    let more = read_more _ _ _ _ c.in-Some.c _ _ held.read (held.position ∙ step.1) step.2 c.char_columns-width.ensures.value c.char_columns-width.ensures.bytes in
    record { read = more.0; position = more.1; fits = omega (arith, c.if-columns-width.false) }

pub returns-then-columns-width-clause-front : goal.returns-then-columns-width-clause-front
returns-then-columns-width-clause-front c = front_read _ _ _ _ c.loop-index.invariant.read (rw c.in-Some.ensures.steps.0 refl)

pub returns-then-columns-width-clause-stops : goal.returns-then-columns-width-clause-stops
returns-then-columns-width-clause-stops c =
    let held = c.loop-index.invariant in
    let step = c.in-Some.ensures.steps in
    stops_before _ _ _ _ c.in-Some.c _ _ _ held.read (held.position ∙ step.1) c.char_columns-width.ensures.value c.if-columns-width.true (rw step.0 refl)

pub returns-clause-front : goal.returns-clause-front
returns-clause-front c =
    let held = c.loop-index.invariant in
    (stops_at_end c.args.most _ _ _ _ held.read (ap length held.position ∙ c.in-None.ensures.steps.0) refl).1

pub returns-clause-stops : goal.returns-clause-stops
returns-clause-stops c =
    let held = c.loop-index.invariant in
    (stops_at_end c.args.most _ _ _ _ held.read (ap length held.position ∙ c.in-None.ensures.steps.0) refl).0

use Rattle.std.proofs.Common.{◌≡◌, ap, length, sym, ◌∙◌, refl, subst, false}
use Rattle.std.specs.Char.{is_whitespace}
use Rattle.std.specs.List.{AllByRecursion}
use Rattle.std.proofs.lemmas.Str.{chars-nil}
use Rattle.mad_measure.proofs.AllLemmas.{all_push}
use Rattle.mad_fitting.proofs.FrontLemmas.{read_start, read_more, front_read, stops_at_end, ended_before, ended_at_end}
use Rattle.mad_fitting.proofs.fronts.solid_front.Goals as goal

pub loop-index-init : goal.loop-index-init
loop-index-init c =
    let zero = c.char_indices-index-items.ensures.offset in
    let all = c.char_indices-index-items.ensures.rest in
    rw c.into_iter-index-iterator.ensures.into_iter_gives (record {
      read = rw zero (read_start c.args.text.now c.utf8.text);
      position = rw zero (sym all);
      solid = rw (zero, chars-nil) tt;
    })

pub loop-index-preserved : goal.loop-index-preserved
loop-index-preserved c =
    let held = c.loop-index.invariant in
    let step = c.in-Some.ensures.steps in
    let more = read_more _ _ _ _ c.in-Some.c _ _ held.read (held.position ∙ step.1) step.2 c.char_columns-columns.ensures.value c.char_columns-columns.ensures.bytes in
    record {
      read = more.0;
      position = more.1;
      solid = subst (AllByRecursion (λ c. is_whitespace c ≡ false)) (sym more.2) (all_push (λ c. is_whitespace c ≡ false) _ c.in-Some.c held.solid (sym c.if-is_whitespace.ensures));
    }

pub returns-then-is_whitespace-clause-front : goal.returns-then-is_whitespace-clause-front
returns-then-is_whitespace-clause-front c = front_read _ _ _ _ c.loop-index.invariant.read (rw c.in-Some.ensures.steps.0 refl)

pub returns-then-is_whitespace-clause-solid : goal.returns-then-is_whitespace-clause-solid
returns-then-is_whitespace-clause-solid c =
    let held = c.loop-index.invariant in
    let step = c.in-Some.ensures.steps in
    rw step.0 (record { solid = held.solid; ended = ended_before _ _ _ c.in-Some.c _ held.read (held.position ∙ step.1) (sym c.if-is_whitespace.ensures) })

pub returns-clause-front : goal.returns-clause-front
returns-clause-front c =
    let held = c.loop-index.invariant in
    (stops_at_end 0 _ _ _ _ held.read (ap length held.position ∙ c.in-None.ensures.steps.0) refl).1

pub returns-clause-solid : goal.returns-clause-solid
returns-clause-solid c =
    let held = c.loop-index.invariant in
    ended_at_end _ _ c.loop-index.columns held.read (ap length held.position ∙ c.in-None.ensures.steps.0) held.solid

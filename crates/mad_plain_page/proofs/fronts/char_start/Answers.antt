use Rattle.std.proofs.Common.{ap, length, sym, ◌∙◌, arith, refl}
use Rattle.std.proofs.lemmas.Str.{chars-nil, IsCharBoundary-from_drop}
use Rattle.std.proofs.lemmas.List.{length-append}
use Rattle.mad_characters.proofs.CharColumns.{char_columns-le}
use Rattle.mad_fitting.proofs.FrontLemmas.{read_start, read_more, read_again, number_before, all_before}
use Rattle.mad_plain_page.proofs.fronts.char_start.Goals as goal

pub loop-index-init : goal.loop-index-init
loop-index-init c =
    let zero = c.char_indices-index-items.ensures.offset in
    let all = c.char_indices-index-items.ensures.rest in
    rw c.into_iter-index-iterator.ensures.into_iter_gives (record {
      read = rw (zero, chars-nil) (read_start c.args.text.now c.utf8.text);
      position = rw zero (sym all);
      number = rw (zero, chars-nil) (omega arith);
    })

pub loop-index-preserved : goal.loop-index-preserved
loop-index-preserved c =
    let held = c.loop-index.invariant in
    let step = c.in-Some.ensures.steps in
    let more = read_more _ _ _ _ _ _ _ held.read (held.position ∙ step.1) step.2 refl (char_columns-le _) in
    record { read = read_again _ _ _ more.0; position = more.1; number = omega (arith, held.number, c.if-left-eq0.false, (simp length-append at (ap length more.2))) }

pub returns-then-left-eq0-clause-before : goal.returns-then-left-eq0-clause-before
returns-then-left-eq0-clause-before c =
    let held = c.loop-index.invariant in
    rw c.in-Some.ensures.steps.0 (number_before _ _ _ _ held.read (omega (arith, held.number, c.if-left-eq0.true)))

pub returns-then-left-eq0-clause-border : goal.returns-then-left-eq0-clause-border
returns-then-left-eq0-clause-border c =
    let held = c.loop-index.invariant in
    rw c.in-Some.ensures.steps.0 (IsCharBoundary-from_drop _ _ held.read.inside held.read.rest)

pub returns-clause-before : goal.returns-clause-before
returns-clause-before c =
    let held = c.loop-index.invariant in
    all_before _ _ _ _ held.read (ap length held.position ∙ c.in-None.ensures.steps.0) (omega (arith, held.number))

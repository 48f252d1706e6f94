use Rattle.std.proofs.Common.{◌≡◌, length, string_bytes, refl, ap, sym, ◌∙◌, arith}
use Rattle.mad_screen.specs.Grid.{plain_pen}
use Rattle.mad_frames.specs.Mending.{mended_row}
use Rattle.mad_frames.specs.Whole.{are_whole}
use Rattle.mad_frames.proofs.MendLemmas.{adds_mended, adds_same, same_mended, bound_mended, mended_length, mended_whole, whole_stays}
use Rattle.mad_frames.proofs.writing.push_mended_row.Goals as goal

pub returns-then-same_rows-clause-leads : goal.returns-then-same_rows-clause-leads
returns-then-same_rows-clause-leads c = adds_same c.args.old.now c.args.new.now c.args.y (string_bytes c.args.out.now) (c.if-same_rows.ensures refl)

pub returns-then-are_whole-2-clause-leads : goal.returns-then-are_whole-2-clause-leads
returns-then-are_whole-2-clause-leads c =
    let old = c.args.old.now in
    let new = c.args.new.now in
    let a : old ≡ mended_row old = sym (whole_stays 0 plain_pen old (sym c.are_whole.ensures ∙ c.if-are_whole.true)) in
    let b : new ≡ mended_row new = sym (whole_stays 0 plain_pen new (sym c.are_whole-then-are_whole.ensures ∙ c.if-are_whole-2.true)) in
    adds_mended _ old new old new c.args.y (length new) (string_bytes c.args.out.now) (string_bytes c.push_row.new.out) a b refl c.push_row.ensures.leads

pub returns-then-are_whole-2-clause-same : goal.returns-then-are_whole-2-clause-same
returns-then-are_whole-2-clause-same c =
    let old = c.args.old.now in
    let new = c.args.new.now in
    let a : old ≡ mended_row old = sym (whole_stays 0 plain_pen old (sym c.are_whole.ensures ∙ c.if-are_whole.true)) in
    let b : new ≡ mended_row new = sym (whole_stays 0 plain_pen new (sym c.are_whole-then-are_whole.ensures ∙ c.if-are_whole-2.true)) in
    same_mended _ old new old new (string_bytes c.args.out.now) (string_bytes c.push_row.new.out) a b c.push_row.ensures.same

pub push_row-requires-2-clause-same_length : goal.push_row-requires-2-clause-same_length
push_row-requires-2-clause-same_length c =
    let a : c.deref.result.now ≡ mended_row c.args.old.now = c.deref.ensures.value ∙ c.in_ok-old.ensures in
    let b : c.deref-2.result.now ≡ mended_row c.args.new.now = c.deref-2.ensures.value ∙ c.in_ok-new.ensures in
    ap length a ∙ mended_length 0 c.args.old.now ∙ c.requires.same_length ∙ sym (mended_length 0 c.args.new.now) ∙ sym (ap length b)

pub push_row-requires-2-clause-columns : goal.push_row-requires-2-clause-columns
push_row-requires-2-clause-columns c =
    let b : c.deref-2.result.now ≡ mended_row c.args.new.now = c.deref-2.ensures.value ∙ c.in_ok-new.ensures in
    let count : length c.deref-2.result.now ≡ length c.args.new.now = ap length b ∙ mended_length 0 c.args.new.now in
    omega (arith, c.requires.columns)

pub push_row-requires-2-clause-whole : goal.push_row-requires-2-clause-whole
push_row-requires-2-clause-whole c = ap are_whole (c.deref-2.ensures.value ∙ c.in_ok-new.ensures) ∙ mended_whole 0 plain_pen c.args.new.now refl

pub returns-clause-leads : goal.returns-clause-leads
returns-clause-leads c =
    let a : c.deref.result.now ≡ mended_row c.args.old.now = c.deref.ensures.value ∙ c.in_ok-old.ensures in
    let b : c.deref-2.result.now ≡ mended_row c.args.new.now = c.deref-2.ensures.value ∙ c.in_ok-new.ensures in
    adds_mended _ c.args.old.now c.args.new.now c.deref.result.now c.deref-2.result.now c.args.y (length c.args.new.now) (string_bytes c.args.out.now) (string_bytes c.push_row-2.new.out) a b refl c.push_row-2.ensures.leads

pub returns-then-are_whole-2-clause-bound : goal.returns-then-are_whole-2-clause-bound
returns-then-are_whole-2-clause-bound c =
    let old = c.args.old.now in
    let new = c.args.new.now in
    let a : old ≡ mended_row old = sym (whole_stays 0 plain_pen old (sym c.are_whole.ensures ∙ c.if-are_whole.true)) in
    let b : new ≡ mended_row new = sym (whole_stays 0 plain_pen new (sym c.are_whole-then-are_whole.ensures ∙ c.if-are_whole-2.true)) in
    bound_mended _ old new old new (string_bytes c.args.out.now) (string_bytes c.push_row.new.out) a b c.push_row.ensures.bound

pub returns-clause-bound : goal.returns-clause-bound
returns-clause-bound c =
    let a : c.deref.result.now ≡ mended_row c.args.old.now = c.deref.ensures.value ∙ c.in_ok-old.ensures in
    let b : c.deref-2.result.now ≡ mended_row c.args.new.now = c.deref-2.ensures.value ∙ c.in_ok-new.ensures in
    bound_mended _ c.args.old.now c.args.new.now c.deref.result.now c.deref-2.result.now (string_bytes c.args.out.now) (string_bytes c.push_row-2.new.out) a b c.push_row-2.ensures.bound

use Rattle.std.proofs.Common.{◌-◌, arith, refl}
use Rattle.mad_plain_page.specs.declared.taking.Taken.{Taken}
use Rattle.mad_plain_page.proofs.TakeLemmas.{line_cut, line_passed, one_row_passed}
use Rattle.mad_plain_page.proofs.taking.Taken.push_line.Goals as goal

pub returns-then-text-width : goal.returns-then-text-width
returns-then-text-width c = λ more.
    let old = c.args.self.now in
    let new : Taken = record { rows = old.rows; skip = old.skip - 1; room = old.room } in
    one_row_passed c.args.is_styled c.args.width c.args.line.now c.as_str-text.result.now old new more c.as_str-text.utf8 c.as_str-text.ensures.value (omega (arith, c.if-text-width.true)) (omega (arith, c.if-self-gt0.true)) refl

pub returns-then-count-self : goal.returns-then-count-self
returns-then-count-self c = λ more.
    let old = c.args.self.now in
    let new : Taken = record { rows = old.rows; skip = old.skip - c.len-count.result; room = old.room } in
    line_passed c.args.is_styled c.args.width c.args.line.now c.in_ok-ends.ends.items c.as_str-text.result.now c.len-count.result old new more c.in_ok-ends.ensures c.as_str-text.ensures.value (omega (arith, c.len-count.ensures, c.in_ok-ends.ends.ok.0)) (omega (arith, c.if-count-self.true)) refl

pub returns : goal.returns
returns c = λ more.
    line_cut c.args.is_styled c.args.width c.args.line.now c.in_ok-ends.ends.items c.as_str-text.result.now c.args.self.now c.push_rows.new.self more c.in_ok-ends.ensures c.as_str-text.ensures.value c.in_ok-push_rows.ensures

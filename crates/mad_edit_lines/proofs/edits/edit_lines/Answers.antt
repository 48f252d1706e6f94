use Rattle.std.proofs.Common.{◌+◌, ap, sym, ◌∙◌, subst, arith, drop, chars, suc, refl}
use Rattle.std.specs.Prelude.{All}
use Rattle.mad_edit_lines.specs.TextLines.{lines_of, text_of, accepted, IsLineText}
use Rattle.mad_edit_lines.proofs.PositionLemmas.{edited, moved_in, all_lines}
use Rattle.mad_edit_lines.proofs.RowLemmas.{rows_replaced}
use Rattle.mad_edit_lines.proofs.edits.edit_lines.Goals as goal

pub returns-clause-text : goal.returns-clause-text
returns-clause-text c =
    ap text_of (rows_replaced c.args.lines.now.items c.in_ok-made.field-0.lines.items c.replace_lines.new.lines.items c.args.from.y c.args.to.y c.in_ok-replace_lines.ensures.ok) ∙ edited (lines_of c.args.lines.now.items) (lines_of c.in_ok-made.field-0.lines.items) c.args.from c.args.to (accepted (chars c.args.text.now)) c.requires.from c.requires.to (let e = c.in_ok-made.ensures.end in omega arith) c.in_ok-made.ensures.text

pub returns-clause-position : goal.returns-clause-position
returns-clause-position c =
    rw (rows_replaced c.args.lines.now.items c.in_ok-made.field-0.lines.items c.replace_lines.new.lines.items c.args.from.y c.args.to.y c.in_ok-replace_lines.ensures.ok) (moved_in (lines_of c.args.lines.now.items) (lines_of c.in_ok-made.field-0.lines.items) _ c.args.from.y c.in_ok-made.field-0.end (record { y = c.args.from.y + c.in_ok-made.field-0.end.y; x = c.in_ok-made.field-0.end.x }) (omega arith) c.in_ok-made.ensures.end refl refl).0

pub returns-clause-at : goal.returns-clause-at
returns-clause-at c =
    let m = (moved_in (lines_of c.args.lines.now.items) (lines_of c.in_ok-made.field-0.lines.items) (drop (suc c.args.to.y) (lines_of c.args.lines.now.items)) c.args.from.y c.in_ok-made.field-0.end (record { y = c.args.from.y + c.in_ok-made.field-0.end.y; x = c.in_ok-made.field-0.end.x }) (omega arith) c.in_ok-made.ensures.end refl refl).1 in
    let e = c.in_ok-made.ensures.ends_at in
    rw (rows_replaced c.args.lines.now.items c.in_ok-made.field-0.lines.items c.replace_lines.new.lines.items c.args.from.y c.args.to.y c.in_ok-replace_lines.ensures.ok) (omega (arith, m, e))

pub returns-clause-texts : goal.returns-clause-texts
returns-clause-texts c =
    subst (All IsLineText) (sym (rows_replaced c.args.lines.now.items c.in_ok-made.field-0.lines.items c.replace_lines.new.lines.items c.args.from.y c.args.to.y c.in_ok-replace_lines.ensures.ok)) (all_lines IsLineText (lines_of c.args.lines.now.items) (lines_of c.in_ok-made.field-0.lines.items) c.args.from.y (suc c.args.to.y) c.requires.texts c.in_ok-made.ensures.texts)

use Rattle.std.proofs.Common.{arith, suc, refl}
use Rattle.mad_edit_lines.specs.TextLines.{lines_of}
use Rattle.mad_edit_lines.proofs.PositionLemmas.{next_line, length-text, more_lines, no_lines}
use Rattle.mad_edit_lines.proofs.positions.position_after.Goals as goal

pub returns-then-position-line_len-clause-at_end : goal.returns-then-position-line_len-clause-at_end
returns-then-position-line_len-clause-at_end c = let e = length-text (lines_of c.args.lines.now) c.args.position c.requires in (λ _. omega arith, λ _. refl)

pub returns-then-position-line_count-clause-next : goal.returns-then-position-line_count-clause-next
returns-then-position-line_count-clause-next c = let e = next_line (lines_of c.args.lines.now) c.args.position.y (omega arith) in omega arith

pub returns-then-position-line_count-clause-at_end : goal.returns-then-position-line_count-clause-at_end
returns-then-position-line_count-clause-at_end c =
    let e = length-text (lines_of c.args.lines.now) c.args.position c.requires in
    let m = more_lines (lines_of c.args.lines.now) (suc c.args.position.y) (omega arith) in
    (λ _. omega arith, λ _. refl)

pub returns-else-position-line_count-clause-at_end : goal.returns-else-position-line_count-clause-at_end
returns-else-position-line_count-clause-at_end c =
    let e = length-text (lines_of c.args.lines.now) c.args.position c.requires in
    let m = no_lines (lines_of c.args.lines.now) (suc c.args.position.y) (omega arith) in
    (λ h. cc, λ h. absurd (omega arith))

use Rattle.std.proofs.Common.{◌≡◌, ◌+◌, ◌-◌, arith, length, take, ap}
use Rattle.mad_edit_lines.specs.TextLines.{lines_of, led_lines}
use Rattle.mad_edit_lines.proofs.PositionLemmas.{next_line}
use Rattle.mad_edit_lines.proofs.positions.position_before.Goals as goal

pub returns-then-position-gt0-2-clause-next : goal.returns-then-position-gt0-2-clause-next
returns-then-position-gt0-2-clause-next c =
    let up : c.args.position.y - 1 + 1 ≡ c.args.position.y = omega arith in
    let e = next_line (lines_of c.args.lines.now) (c.args.position.y - 1) (omega arith) in
    let f = ap (λ n. length (led_lines (take n (lines_of c.args.lines.now)))) up in
    omega (arith, e, f)

use Rattle.std.proofs.Common.{◌<◌, ◌-◌, arith, length, suc}
use Rattle.std.proofs.lemmas.List.{length-map}
use Rattle.mad_edit_lines.specs.TextLines.{lines_of, chars_of}
use Rattle.mad_edit_lines.proofs.PositionLemmas.{length-text, no_lines}
use Rattle.mad_edit_lines.proofs.positions.end_position.Goals as goal

pub returns-clause-last : goal.returns-clause-last
returns-clause-last c =
    let ls = lines_of c.args.lines.now in
    let some : 0 < length ls = omega (arith, length-map c.args.lines.now chars_of) in
    let e = length-text ls (record { y = c.line_count-y.result - 1; x = c.line_len.result }) (omega arith, omega arith) in
    let n = no_lines ls (suc (c.line_count-y.result - 1)) (omega arith) in
    omega (arith, e, n)

use Rattle.std.proofs.Common.{◌≡◌, ◌++◌, string_bytes, drop, map}
use Rattle.mad_plain_rows.specs.PlainRows.{lines_bytes}
use Rattle.mad_plain_rows.proofs.lines.push_lines.Given as goal

abbrev pub invariant-loop-line : goal.invariant-loop-line
invariant-loop-line l =
    string_bytes l.text ++ lines_bytes l.fn.width l.fn.is_styled (map (λ line. line.now) (drop l.line-index l.fn.lines))
    ≡ string_bytes l.fn.text ++ lines_bytes l.fn.width l.fn.is_styled (map (λ line. line.now) l.fn.lines)

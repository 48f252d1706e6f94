use Rattle.std.proofs.Common.{string_bytes, ap, sym, ◌∙◌, ◌++◌, List, ℕ}
use Rattle.mad_rows.specs.Rows.{line_bytes}
use Rattle.mad_rows.proofs.PieceLemmas.{rows_with}
use Rattle.mad_rows.proofs.row_writing.append_lines.Goals as goal

pub loop-line-preserved : goal.loop-line-preserved
loop-line-preserved c =
    let skin = c.args.skin.now in
    c.in_ok-append_line.ensures
    ∙ ap (λ (b : List ℕ). b ++ line_bytes skin c.args.width c.line-item.result) c.loop-line.invariant
    ∙ sym (rows_with skin c.args.width (string_bytes c.args.rows.now) c.args.lines.now c.loop-line.line-index c.line-item.result c.loop-line-test.true c.line-item.is)

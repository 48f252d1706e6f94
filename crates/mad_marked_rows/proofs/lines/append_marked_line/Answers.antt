use Rattle.std.proofs.Common.{List, ℕ, ◌++◌, ◌∙◌, ap}
use Rattle.std.specs.Prelude.{string_bytes}
use Rattle.mad_draw.specs.Pieces.{pieces_bytes}
use Rattle.mad_marks.specs.LineMarks.{has_mark}
use Rattle.mad_marked_rows.specs.Paints.{paint_by}
use Rattle.mad_rows.specs.Rows.{line_pieces}
use Rattle.mad_marked_rows.proofs.RowLemmas.{plain_line}
use Rattle.mad_marked_rows.proofs.lines.append_marked_line.Goals as goal

pub returns-in_ok-write-in_default : goal.returns-in_ok-write-in_default
returns-in_ok-write-in_default c =
    let skin = c.args.skin in
    plain_line (paint_by skin.paint.styles.now) has_mark skin.runs.now skin.skin.now c.args.outer c.args.filled c.args.numbers.now c.args.line.now skin.addresses.now (string_bytes c.args.rows.now) (string_bytes c.write.new.self) c.in_default.not-Normal c.in_default.not-TableRow
    (c.in_ok-write-in_default.ensures.bytes ∙ ap (λ (l : List ℕ). l ++ pieces_bytes (line_pieces skin.skin.now c.args.outer c.args.filled c.args.line.now)) c.reserve.ensures.bytes)

use Rattle.std.proofs.Common.{arith, ap, sym, ◌∙◌, Some, get_or, ℕ, []}
use Rattle.std.proofs.lemmas.List.{get_or-map, length-map}
use Rattle.mad_edit_lines.specs.TextLines.{chars_of, lines_of}
use Rattle.mad_edit_lines.proofs.PositionLemmas.{char_in_line, char_at_line_end, char_at_end}
use Rattle.mad_edit_lines.proofs.positions.char_at.Goals as goal

pub returns-then-position-line_len : goal.returns-then-position-line_len
returns-then-position-line_len c =
    let xs = c.args.lines.now in
    let l = sym (get_or-map chars_of xs c.args.position.y c.index-lines-position.result [] (simp length-map at c.requires.0)) in
    ap (λ (x : ℕ). Some x) (c.index.ensures ∙ ap (λ t. get_or t c.args.position.x c.index.result.now) l)
    ∙ sym (char_in_line (lines_of c.args.lines.now) c.args.position _ c.requires (omega arith))

pub returns-then-position-line_count : goal.returns-then-position-line_count
returns-then-position-line_count c = sym (char_at_line_end (lines_of c.args.lines.now) c.args.position c.requires (omega arith) (omega arith))

pub returns-else-position-line_count : goal.returns-else-position-line_count
returns-else-position-line_count c = sym (char_at_end (lines_of c.args.lines.now) c.args.position c.requires (omega arith) (omega arith))

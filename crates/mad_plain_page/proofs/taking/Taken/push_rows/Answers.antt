use Rattle.std.proofs.Common.{ℕ, ap, drop, map, take, ◌∙◌}
use Rattle.std.specs.Vec.Iter.{into_iter_items}
use Rattle.mad_plain.specs.Rows.{rows_by}
use Rattle.mad_plain.specs.Shown.{rest_of, shown_of}
use Rattle.mad_plain_page.specs.PlainTexts.{painted_row}
use Rattle.mad_plain_page.specs.StyledRows.{row_chars}
use Rattle.mad_plain_page.proofs.TakeLemmas.{row_next}
use Rattle.mad_plain_page.proofs.taking.Taken.push_rows.Goals as goal

pub loop-end-preserved : goal.loop-end-preserved
loop-end-preserved c = λ more.
    row_next c.args.is_styled c.args.self.now c.loop-end.self c.push_row.new.self c.loop-end.at c.in-Some.end (into_iter_items c.loop-end.end-iterator) (into_iter_items c.next.new.self)
    (rest_of c.loop-end.rest) (rest_of c.take_part.new.rest) (shown_of c.in_ok-part.part) (row_chars c.in_ok-row.row) (map (painted_row c.args.is_styled) (rows_by 0 c.args.ends.items (shown_of c.args.line.now))) more
    c.in-Some.ensures.steps.0 (c.in_ok-part.ensures.part ∙ ap (λ (n : ℕ). take n (rest_of c.loop-end.rest)) c.saturating_sub.ensures)
    (c.in_ok-part.ensures.left ∙ ap (λ (n : ℕ). drop n (rest_of c.loop-end.rest)) c.saturating_sub.ensures) c.in_ok-row.ensures c.in_ok-push_row.ensures (c.loop-end.invariant more)

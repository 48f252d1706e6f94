use Rattle.std.proofs.Common.{string_bytes}
use Rattle.mad_plain.specs.Shown.{rest_of}
use Rattle.mad_plain_rows.proofs.RowLemmas.{one_more}
use Rattle.mad_plain_rows.proofs.rows.push_row.Goals as goal

pub loop-style-preserved : goal.loop-style-preserved
loop-style-preserved c =
    one_more c.args.is_styled c.loop-style.pen c.pen_written-next.result _ (rest_of c.loop-style.rest) (rest_of c.next.new.self) (string_bytes c.loop-style.text) (string_bytes c.push_turn.new.text) (string_bytes c.push.new.self) _
    c.pen_written-next.ensures c.in-Some.ensures.cases c.in_ok-push_turn.ensures c.in_ok-push.ensures.bytes c.loop-style.invariant

use Rattle.std.specs.Prelude.{string_bytes}
use Rattle.mad_marked_rows.specs.Paints.{paint_by}
use Rattle.mad_marked_rows.proofs.PartLemmas.{first_on}
use Rattle.mad_marked_rows.proofs.texts.append_first.Goals as goal

pub returns : goal.returns
returns c =
    first_on (paint_by c.args.paint.styles.now) c.args.addresses.now c.args.style c.args.was c.mark_link.result c.args.value c.args.c (string_bytes c.args.rows.now) (string_bytes c.push_change.new.row) (string_bytes c.append_opening.new.rows) (string_bytes c.push.new.self)
    c.mark_link.ensures c.in_ok-push_change.ensures c.in_ok-append_opening.ensures c.in_ok-push.ensures.bytes

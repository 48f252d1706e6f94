use Rattle.std.specs.Prelude.{string_bytes}
use Rattle.mad_marked_rows.proofs.WrittenLemmas.{one_on}
use Rattle.mad_marked_rows.proofs.written.append_one.Goals as goal

pub returns : goal.returns
returns c =
    one_on c.args.addresses.now c.args.seen (string_bytes c.args.rows.now) (string_bytes c.push_change.new.row) (string_bytes c.write.new.self) c.args.was c.mark_link-link.result c.mark_link-link.ensures c.in_ok-push_change.ensures c.in_ok-write.ensures.bytes

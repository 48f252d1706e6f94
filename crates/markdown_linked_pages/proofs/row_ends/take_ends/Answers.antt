use Rattle.std.proofs.Common.{string_bytes, string_len}
use Rattle.markdown_layout.proofs.EndLemmas.{end_taken, ends_taken, left_first}
use Rattle.markdown_linked_pages.proofs.row_ends.take_ends.Goals as goal

pub ends-init : goal.ends-init
ends-init c = left_first c.args.start (string_bytes c.args.rows.now)

pub ends-preserved : goal.ends-preserved
ends-preserved c =
    let was = c.args.rows.now in
    let now = c.ends.rows in
    end_taken c.args.start (string_bytes was) (string_bytes now) (string_bytes c.pop.new.self) (string_len was) (string_len now) c.has_end.result was.bytes.ok.0 now.bytes.ok.0 c.requires c.ends.invariant c.has_end.ensures c.ends-test.true c.pop.ensures.ascii_bytes

pub returns : goal.returns
returns c =
    let was = c.args.rows.now in
    let now = c.ends.rows in
    ends_taken c.args.start (string_bytes was) (string_bytes now) (string_len was) (string_len now) c.has_end.result was.bytes.ok.0 now.bytes.ok.0 c.requires c.ends.invariant c.has_end.ensures c.ends-test.false

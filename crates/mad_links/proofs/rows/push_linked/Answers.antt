use Rattle.std.proofs.Common.{string_bytes}
use Rattle.mad_links.proofs.WritingLemmas.{write_step, write_end}
use Rattle.mad_links.proofs.rows.push_linked.Goals as goal

pub loop-piece-preserved : goal.loop-piece-preserved
loop-piece-preserved c =
    write_step c.args.addresses.now c.args.pieces.now c.loop-piece.piece-index c.loop-piece.was c.in_ok-was.was' c.piece-item.result _ (string_bytes c.loop-piece.row) (string_bytes c.push_piece.new.row)
    c.loop-piece-test.true c.piece-item.is c.loop-piece.invariant c.in_ok-was.ensures.writes c.in_ok-was.ensures.opens

pub returns-clause-writes : goal.returns-clause-writes
returns-clause-writes c =
    write_end c.args.addresses.now c.args.pieces.now c.loop-piece.piece-index c.loop-piece.was _ (string_bytes c.loop-piece.row) (string_bytes c.push_end.new.row) c.loop-piece-test.false c.loop-piece.invariant
    c.in_ok-push_end.ensures

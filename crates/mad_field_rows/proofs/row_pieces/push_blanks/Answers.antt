use Rattle.std.proofs.Common.{arith}
use Rattle.mad_draw.specs.Pieces.{pieces_bytes, spaces}
use Rattle.mad_style.specs.StyledChars.{styled_char}
use Rattle.mad_field_rows.proofs.PieceLemmas.{always_ok, blanks_known, blanks_more, blanks_written}
use Rattle.mad_field_rows.proofs.row_pieces.push_blanks.Goals as goal

pub loop-done-preserved : goal.loop-done-preserved
loop-done-preserved c = blanks_more (pieces_bytes (spaces c.args.style c.most_spaces-most.result)) c.loop-done._done _ _ _ c.loop-done.invariant c.in_ok-write.ensures.bytes

pub returns-clause-writes : goal.returns-clause-writes
returns-clause-writes c =
    blanks_written c.write-2.result c.args.style c.most_spaces-most.result c.args.count c.loop-done._done _ _ _ c.most_spaces-most.ensures.is (omega (arith, c.loop-done-test.false, c.loop-done.auto._done-end)) c.loop-done.invariant c.write-2.ensures.bytes

pub returns-clause-known : goal.returns-clause-known
returns-clause-known c = always_ok c.write-2.result (blanks_known (styled_char c.args.style 32) c.args.count c.know_style.ensures)

use Rattle.mad_term.proofs.Pieces.{unstyled_piece}
use Rattle.mad_term.proofs.queue.queue_styled.Goals as goal

pub returns-then-is_unstyled-clause-writes : goal.returns-then-is_unstyled-clause-writes
returns-then-is_unstyled-clause-writes g c =
    rw (unstyled_piece c.args.style c.args.text.now (c.is_unstyled.ensures.unstyled.0 c.if-is_unstyled.true)) c.put_text.ensures.writes

pub returns-then-is_unstyled-clause-bytes : goal.returns-then-is_unstyled-clause-bytes
returns-then-is_unstyled-clause-bytes g c = c.is_unstyled.ensures.bytes

pub returns-clause-bytes : goal.returns-clause-bytes
returns-clause-bytes g c = c.is_unstyled.ensures.bytes

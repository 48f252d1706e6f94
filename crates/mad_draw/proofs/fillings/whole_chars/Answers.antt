use Rattle.std.proofs.Common.{arith, sym}
use Rattle.mad_draw.proofs.FillingLemmas.{piece_chars_is}
use Rattle.mad_draw.proofs.fillings.whole_chars.Goals as goal

pub returns-then-len-lt-PIECE_CHARS-clause-whole : goal.returns-then-len-lt-PIECE_CHARS-clause-whole
returns-then-len-lt-PIECE_CHARS-clause-whole c = λ many. absurd (omega (arith, many, piece_chars_is))

pub returns-else-len-lt-PIECE_CHARS-clause-within : goal.returns-else-len-lt-PIECE_CHARS-clause-within
returns-else-len-lt-PIECE_CHARS-clause-within c = omega (arith, piece_chars_is)

pub returns-else-len-lt-PIECE_CHARS-clause-whole : goal.returns-else-len-lt-PIECE_CHARS-clause-whole
returns-else-len-lt-PIECE_CHARS-clause-whole c = λ many. sym piece_chars_is

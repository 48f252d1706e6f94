use Rattle.std.proofs.Common.{◌≡◌}
use Rattle.markdown_emphasis.specs.Flags.{flags_of}
use Rattle.markdown_emphasis.proofs.flags.flag_pieces.Given as goal

abbrev pub invariant-loop-piece : goal.invariant-loop-piece
invariant-loop-piece l = l.flags.items ≡ flags_of l.piece l.pairs

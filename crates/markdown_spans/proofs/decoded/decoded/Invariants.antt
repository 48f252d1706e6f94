use Rattle.std.proofs.Common.{◌≡◌, ◌++◌, length}
use Rattle.markdown_spans.specs.Decoded.{decoded_from}
use Rattle.markdown_spans.proofs.decoded.decoded.Given as goal

abbrev pub invariant-loop-rest : goal.invariant-loop-rest
invariant-loop-rest l = l.out.items ++ decoded_from l.escapes 0 l.rest ≡ decoded_from l.escapes 0 l.text

abbrev pub decreases-loop-rest : goal.decreases-loop-rest
decreases-loop-rest l = length l.rest

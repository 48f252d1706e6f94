use Rattle.std.proofs.Common.{◌≡◌, ◌++◌}
use Rattle.std.specs.Prelude.{encode_utf8_all, string_bytes}
use Rattle.markdown_lines.specs.Code.{spaces}
use Rattle.markdown_lines.proofs.code.push_spaces.Given as goal

abbrev pub invariant-loop-more : goal.invariant-loop-more
invariant-loop-more l = string_bytes l.text ++ encode_utf8_all (spaces l.more) ≡ string_bytes l.fn.text ++ encode_utf8_all (spaces l.count)

abbrev pub decreases-loop-more : goal.decreases-loop-more
decreases-loop-more l = l.more

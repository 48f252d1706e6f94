use Rattle.std.proofs.Common.{◌≡◌, ◌++◌, length}
use Rattle.mad_plain.specs.Shown.{rest_of, shown_of}
use Rattle.mad_plain_page.specs.PlainTexts.{painted_row}
use Rattle.mad_plain_page.proofs.painted.painted_row.Given as goal

abbrev pub invariant-loop-style : goal.invariant-loop-style
invariant-loop-style l = l.chars.items ++ painted_row l.fn.is_styled (rest_of l.rest) ≡ painted_row l.fn.is_styled (shown_of l.fn.row)

abbrev pub decreases-loop-style : goal.decreases-loop-style
decreases-loop-style l = length l.rest.text.now

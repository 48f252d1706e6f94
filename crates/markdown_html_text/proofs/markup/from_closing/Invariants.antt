use Rattle.std.proofs.Common.{◌≡◌, length}
use Rattle.markdown_html_text.specs.Markup.{from_closing}
use Rattle.markdown_html_text.proofs.markup.from_closing.Given as goal

abbrev pub invariant-loop-rest : goal.invariant-loop-rest
invariant-loop-rest l = from_closing l.name l.rest ≡ from_closing l.name l.bytes

abbrev pub decreases-loop-rest : goal.decreases-loop-rest
decreases-loop-rest l = length l.rest

use Rattle.std.proofs.Common.{◌≡◌, length}
use Rattle.markdown_html_text.specs.Markup.{after_tag}
use Rattle.markdown_html_text.proofs.markup.after_tag.Given as goal

abbrev pub invariant-loop-rest : goal.invariant-loop-rest
invariant-loop-rest l = after_tag l.here l.rest ≡ after_tag l.fn.place l.bytes

abbrev pub decreases-loop-rest : goal.decreases-loop-rest
decreases-loop-rest l = length l.rest

use Rattle.std.proofs.Common.{◌≡◌, drop}
use Rattle.markdown_marks.specs.Html.{ends_alone}
use Rattle.markdown_marks.proofs.tags.ends_alone.Given as goal

abbrev pub invariant-loop-b : goal.invariant-loop-b
invariant-loop-b l = ends_alone l.here (drop l.b-index l.bytes) ≡ ends_alone l.fn.place l.bytes

use Rattle.std.proofs.Common.{◌≡◌, take}
use Rattle.markdown_linked_pages.specs.LinkedPages.{numbered}
use Rattle.markdown_linked_pages.proofs.link_marks.numbered.Given as goal

abbrev pub invariant-loop-run : goal.invariant-loop-run
invariant-loop-run l = l.made.items ≡ numbered l.first (take l.run-index l.runs)

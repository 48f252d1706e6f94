use Rattle.std.proofs.Common.{◌≡◌, length}
use Rattle.markdown_layout.specs.Looks.{change_look}
use Rattle.markdown_layout.proofs.page_writing.change_look.Given as goal

abbrev pub invariant-loop-rest : goal.invariant-loop-rest
invariant-loop-rest l = change_look l.rest ≡ change_look l.gutters

abbrev pub decreases-loop-rest : goal.decreases-loop-rest
decreases-loop-rest l = length l.rest

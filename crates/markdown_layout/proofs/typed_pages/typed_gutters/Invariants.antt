use Rattle.std.proofs.Common.{length}
use Rattle.std.specs.List.{AllByRecursion}
use Rattle.mad_page_rows.specs.FaceLaws.{IsTypedGutter}
use Rattle.markdown_layout.proofs.typed_pages.typed_gutters.Given as goal

abbrev pub invariant-loop-rest : goal.invariant-loop-rest
invariant-loop-rest l = AllByRecursion IsTypedGutter l.rest → AllByRecursion IsTypedGutter l.gutters

abbrev pub decreases-loop-rest : goal.decreases-loop-rest
decreases-loop-rest l = length l.rest

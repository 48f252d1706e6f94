use Rattle.std.proofs.Common.{◌≡◌, length}
use Rattle.markdown_lines.specs.LinksOf.{defined_of}
use Rattle.markdown_definitions.specs.Definitions.{defined_in}
use Rattle.markdown_definitions.proofs.definitions.push_definitions.Given as goal

abbrev pub invariant-loop-count : goal.invariant-loop-count
invariant-loop-count l = defined_in l.count (defined_of l.definitions) l.rest ≡ defined_in (length l.text) (defined_of l.fn.definitions) l.text

abbrev pub decreases-loop-count : goal.decreases-loop-count
decreases-loop-count l = l.count

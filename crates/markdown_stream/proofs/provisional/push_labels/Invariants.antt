use Rattle.std.proofs.Common.{◌≡◌, length}
use Rattle.markdown_lines.specs.LinksOf.{defined_of}
use Rattle.markdown_stream.specs.Openings.{openings_of}
use Rattle.markdown_stream.specs.Provisional.{labels_from, labels_named, with_labels}
use Rattle.markdown_stream.proofs.provisional.push_labels.Given as goal

abbrev pub invariant-loop-rest : goal.invariant-loop-rest
invariant-loop-rest l =
    with_labels (defined_of l.definitions) (labels_from (openings_of l.opens.items) l.before l.escaped l.rest)
    ≡ with_labels (defined_of l.fn.definitions) (labels_named l.text)

abbrev pub decreases-loop-rest : goal.decreases-loop-rest
decreases-loop-rest l = length l.rest

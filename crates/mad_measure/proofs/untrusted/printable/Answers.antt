use Rattle.std.proofs.Common.{arith}
use Rattle.std.proofs.lemmas.Grind.{common_steps}
use Rattle.std.proofs.lemmas.Str.{IsCharBoundary-from_drop}
use Rattle.mad_measure.proofs.PrintableLemmas.{whole_stays, bytes_printable}
use Rattle.mad_measure.proofs.untrusted.printable.Goals as goal

pub returns-then-bytes-text-clause-text : goal.returns-then-bytes-text-clause-text
returns-then-bytes-text-clause-text c = whole_stays _ _ _ c.utf8.text c.printable_front-bytes.ensures.front c.if-bytes-text.true

pub range-requires-clause-end_boundary : goal.range-requires-clause-end_boundary
range-requires-clause-end_boundary c =
    let front = c.printable_front-bytes.ensures in IsCharBoundary-from_drop _ _ front.inside front.front.rest

pub range_from-requires : goal.range_from-requires
range_from-requires c = let front = c.printable_front-bytes.ensures in (λ some. IsCharBoundary-from_drop _ _ front.inside front.front.rest)

pub returns-clause-again : goal.returns-clause-again
returns-clause-again c = bytes_printable _ _ c.utf8.text (grind (arith, common_steps, c.printable_front-bytes.ensures.front.shown))

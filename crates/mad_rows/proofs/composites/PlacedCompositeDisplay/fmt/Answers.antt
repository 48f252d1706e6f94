use Rattle.std.proofs.Common.{refl}
use Rattle.std.proofs.Output.{has_written_of_eq, has_written_append}
use Rattle.mad_rows.proofs.PieceLemmas.{composite_joined}
use Rattle.mad_rows.proofs.composites.PlacedCompositeDisplay.fmt.Goals as goal

pub returns-clause-writes : goal.returns-clause-writes
returns-clause-writes g c = λ plain ok.
    let placed = c.args.self.now in
    let front = rw c.ends.ensures.front at (c.in_ok-fmt.ensures.writes plain refl) in
    let text = c.in_ok-fmt-2.ensures.writes front.plain refl in
    let end = rw c.ends.ensures.end at (c.fmt-3.ensures.writes text.plain ok) in
    has_written_of_eq _ _ _ _ _
    (composite_joined placed.skin.now placed.place.outer placed.place.margins placed.place.filled placed.composite.now c.line_style-style.result.now c.deref.result.now c.line_style-style.ensures c.deref.ensures.value)
    (has_written_append _ _ _ _ _ _ (has_written_append _ _ _ _ _ _ front text) end)

use Rattle.std.proofs.Common.{refl}
use Rattle.std.proofs.Output.{has_written_of_eq}
use Rattle.mad_marks.specs.LineMarks.{has_mark}
use Rattle.mad_marked_rows.specs.Paints.{paint_by}
use Rattle.mad_marked_rows.proofs.DisplayLemmas.{compound_goes, compounds_end, wrote_more, wrote_nothing}
use Rattle.mad_marked_rows.proofs.displayed.MarkedCompoundsDisplay.fmt.Goals as goal

pub loop-compound-init : goal.loop-compound-init
loop-compound-init g c = λ plain. wrote_nothing _ _ _ plain

pub loop-compound-preserved : goal.loop-compound-preserved
loop-compound-preserved g c = λ plain.
    let self = c.args.self.now in
    let so_far = c.loop-compound.invariant plain in
    wrote_more _ _ _ _ _ _ _ _ so_far (c.in_ok-fmt.ensures.writes so_far.has.plain refl)
    (compound_goes (paint_by self.styles.now) (has_mark self.kind) self.runs.now self.skin.now self.style.now self.compounds.now c.loop-compound.compound-index _ c.loop-compound.number c.in_ok-number.number c.loop-compound-test.true c.in_ok-number.ensures)

pub returns-clause-writes : goal.returns-clause-writes
returns-clause-writes g c = λ plain ok.
    let self = c.args.self.now in
    let so_far = c.loop-compound.invariant plain in
    has_written_of_eq _ _ _ _ _
    (compounds_end _ _ _ (paint_by self.styles.now) (has_mark self.kind) self.runs.now self.skin.now self.style.now self.compounds.now c.loop-compound.compound-index c.loop-compound.number _ c.loop-compound-test.false so_far) so_far.has

use Rattle.std.proofs.Common.{◌∙◌, ap, refl}
use Rattle.std.proofs.Output.{has_written_append, has_written_of_eq}
use Rattle.mad_term.specs.Styles.{closing_bytes}
use Rattle.mad_marked_rows.specs.Paints.{paint_by}
use Rattle.mad_marked_rows.proofs.DisplayLemmas.{part_changes, part_goes}
use Rattle.mad_marked_rows.proofs.displayed.PartCharDisplay.fmt.Goals as goal

pub returns-then-goes_on-clause-writes : goal.returns-then-goes_on-clause-writes
returns-then-goes_on-clause-writes g c = λ plain ok.
    let self = c.args.self.now in
    has_written_of_eq _ _ _ _ _ (part_goes (paint_by self.styles.now) self.style self.value self.other self.c c.goes_on.result c.goes_on.ensures c.if-goes_on.true) (c.write_char.ensures.writes plain ok)

pub returns-clause-writes : goal.returns-clause-writes
returns-clause-writes g c = λ plain ok.
    let self = c.args.self.now in
    let closed = c.in_ok-write_str.ensures.writes plain refl in
    has_written_of_eq _ _ _ _ _
    (part_changes (paint_by self.styles.now) self.style self.value self.other self.c c.closing_text-closing.result.now c.goes_on.result c.goes_on.ensures c.if-goes_on.false (c.closing_text-closing.ensures ∙ ap closing_bytes c.style_of_mark.ensures))
    (has_written_append _ _ _ _ _ _ closed (c.fmt.ensures.writes closed.plain ok))

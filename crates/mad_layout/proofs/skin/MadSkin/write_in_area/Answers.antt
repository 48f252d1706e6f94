use Rattle.mad_layout.proofs.HeadlineRows.{headline_flushed}
use Rattle.mad_layout.proofs.HeadlineLemmas.{area_not_flushed, shown_flushed}
use Rattle.mad_layout.proofs.SourceLemmas.{source_flushed}
use Rattle.mad_layout.specs.RowSkins.{row_skin}
use Rattle.mad_layout.proofs.skin.MadSkin.write_in_area.Goals as goal

pub returns-in_err-flush-clause-writes : goal.returns-in_err-flush-clause-writes
returns-in_err-flush-clause-writes g c =
    area_not_flushed c.from_residual-in_err-flush.result c.in_ok-write_in_area_on.field-0 _ (row_skin c.args.self.now) c.args.markdown.now c.args.area.now _ _ _ c.in_ok-write_in_area_on.ensures.writes c.in_err-flush.ensures c.from_residual-in_err-flush.ensures.1

pub returns-clause-writes : goal.returns-clause-writes
returns-clause-writes g c = (g.O.Out.seen c.write_in_area_on.new.out, c.in_ok-write_in_area_on.ensures.writes, c.in_ok-flush.ensures)

pub returns-clause-shown : goal.returns-clause-shown
returns-clause-shown g c = λ wide. shown_flushed (row_skin c.args.self.now) c.args.markdown.now c.args.area.now _ _ _ (c.in_ok-write_in_area_on.ensures.shown wide) c.in_ok-flush.ensures

pub returns-clause-headline : goal.returns-clause-headline
returns-clause-headline g c = λ wide. headline_flushed (row_skin c.args.self.now) c.args.markdown.now c.args.area.now _ _ _ (c.in_ok-write_in_area_on.ensures.headline wide) c.in_ok-flush.ensures

pub returns-clause-shown_source : goal.returns-clause-shown_source
returns-clause-shown_source g c = λ wide. λ takes. source_flushed (row_skin c.args.self.now) c.args.markdown.now c.args.area.now _ _ _ (c.in_ok-write_in_area_on.ensures.shown_source wide takes) c.in_ok-flush.ensures

use Rattle.std.proofs.Common.{List, [], ◌∷◌, rules, subst}
use Rattle.mad_format.specs.declared.composite.FmtComposite.{FmtComposite}
use Rattle.mad_format.specs.CompositeWraps.{IsCompositeWrap}
use Rattle.mad_format.proofs.WrapLemmas.{then_ok}
use Rattle.mad_blocks.specs.FittingRows.{AllFit}
use Rattle.mad_blocks.proofs.FittingLemmas.{row_stays}
use Rattle.mad_blocks.proofs.table_layout.push_row.Goals as goal

pub returns-then-all_fit : goal.returns-then-all_fit
returns-then-all_fit g c =
    let fit : AllFit c.args.columns.now c.args.row.cells.items = subst (λ (cells : List FmtComposite). AllFit c.args.columns.now cells) c.deref.ensures.value (c.all_fit.ensures (search rules)) in
    then_ok _ _ c.put_line.result (λ pushed. (c.placed.result ∷ [], pushed, row_stays IsCompositeWrap (g.S.LineSkin.rules c.args.skin.now) c.args.columns.now c.args.row.cells.items c.placed.result fit c.placed.ensures)) c.put_line.ensures

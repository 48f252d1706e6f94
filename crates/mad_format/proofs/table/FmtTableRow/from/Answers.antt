use Rattle.std.proofs.Common.{◌≡◌, [], ◌++◌, map, ap, sym, subst, arith}
use Rattle.std.specs.Vec.Iter.{into_iter_items}
use Rattle.std.proofs.lemmas.Grind.{common_steps}
use Rattle.mad_md.specs.Flagged.{run_of}
use Rattle.mad_md.specs.Lines.{styled_runs}
use Rattle.mad_format.specs.FmtLines.{AreCompositesRead}
use Rattle.mad_format.proofs.ReadLemmas.{cells_more, cells_all}
use Rattle.mad_format.proofs.table.FmtTableRow.from.Goals as goal

pub loop-cell-init : goal.loop-cell-init
loop-cell-init g c = λ more h.
    let skin = g.S.LineSkin.rules c.args.skin.now in
    subst (λ ls. AreCompositesRead skin (map styled_runs c.args.row.cells.items) (ls ++ more)) (sym c.in_ok-cells.ensures.items)
    (subst (λ cs. AreCompositesRead skin (map styled_runs cs) more) c.into_iter-cell-iterator.ensures.into_iter_gives.0 h)

pub loop-cell-preserved : goal.loop-cell-preserved
loop-cell-preserved g c =
    let read = c.from.ensures in
    cells_more (g.S.LineSkin.rules c.args.skin.now) (map styled_runs c.args.row.cells.items) (map styled_runs (into_iter_items c.loop-cell.cell-iterator)) (map styled_runs (into_iter_items c.next.new.self)) (styled_runs c.in-Some.cell)
    c.loop-cell.cells.items c.push.new.self.items c.from.result c.loop-cell.invariant (ap (map styled_runs) c.in-Some.ensures.steps.0)
    (record { kind = read.kind; text = ap (map run_of) read.text; measured = read.measured; spacing = read.spacing; margins = read.margins; known = read.typed }) c.in_ok-push.ensures.items

pub returns : goal.returns
returns g c =
    let none : into_iter_items c.loop-cell.cell-iterator ≡ [] = grind (arith, common_steps) in
    cells_all (g.S.LineSkin.rules c.args.skin.now) (map styled_runs c.args.row.cells.items) (map styled_runs (into_iter_items c.loop-cell.cell-iterator)) c.loop-cell.cells.items (ap (map styled_runs) none) c.loop-cell.invariant

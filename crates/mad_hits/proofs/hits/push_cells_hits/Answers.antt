use Rattle.std.proofs.Common.{◌≡◌, ℕ, ◌++◌, ◌∙◌, ap, arith, map, subst}
use Rattle.mad_format.specs.declared.composite.FmtComposite.{FmtComposite}
use Rattle.mad_rows.specs.Rows.{cell_columns}
use Rattle.regex.specs.Strings.{regex_pattern}
use Rattle.mad_wrap.specs.WrapLines.{capped}
use Rattle.mad_hits.specs.Hits.{marked_of, placed_cell}
use Rattle.mad_hits.specs.Parts.{text_hits}
use Rattle.mad_hits.proofs.LineLemmas.{cell_more, cells_whole, no_cell}
use Rattle.mad_hits.proofs.hits.push_cells_hits.Goals as goal

pub loop-cell-init : goal.loop-cell-init
loop-cell-init c = λ start here. no_cell c.args.skin.now (regex_pattern c.args.sought.now) c.args.cells.now start c.args.left c.args.hits.now.items here

pub loop-cell-preserved : goal.loop-cell-preserved
loop-cell-preserved c = λ start here.
    let skin = c.args.skin.now in
    let sought = regex_pattern c.args.sought.now in
    cell_more skin sought c.args.cells.now c.loop-cell.cell-index start c.loop-cell.column c.saturating_add.result c.saturating_add-column.result c.cell_columns.result c.cell-item.result c.args.hits.now.items c.loop-cell.hits.items
    c.push_cell_hits.new.hits.items (c.loop-cell.invariant start here) c.loop-cell-test.true c.saturating_add.ensures (c.cell_columns.ensures ∙ ap (λ (k : FmtComposite). capped (cell_columns skin k)) c.cell-item.is) c.saturating_add-column.ensures
    (subst (λ (k : FmtComposite). (n : ℕ) → c.loop-cell.column ≡ capped n → map marked_of c.push_cell_hits.new.hits.items ≡ map marked_of c.loop-cell.hits.items ++ text_hits skin (placed_cell skin sought n k)) c.cell-item.is c.in_ok-push_cell_hits.ensures)

pub returns : goal.returns
returns c = λ column here.
    cells_whole c.args.skin.now (regex_pattern c.args.sought.now) c.args.cells.now c.loop-cell.cell-index column c.loop-cell.column c.args.hits.now.items c.loop-cell.hits.items (omega arith) (c.loop-cell.invariant column here)

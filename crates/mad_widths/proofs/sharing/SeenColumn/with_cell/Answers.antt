use Rattle.std.proofs.Common.{rules}
use Rattle.mad_widths.proofs.CellLemmas.{seen_more}
use Rattle.mad_widths.proofs.sharing.SeenColumn.with_cell.Goals as goal

pub returns : goal.returns
returns c = λ cells h.
    seen_more c.args.self (record { widest = c.max.result; count = c.saturating_add.result; total = c.saturating_add-2.result }) c.args.width cells (search rules) c.max.ensures c.saturating_add.ensures c.saturating_add-2.ensures h

use Rattle.std.proofs.Common.{◌+◌, ◌∙◌, refl, ap, arith, length, map, string_bytes}
use Rattle.markdown_cells.specs.Cells.{cell_text}
use Rattle.markdown_lines.specs.Leaf.{cell_runs}
use Rattle.markdown_lines.specs.Lines.{cell_said}
use Rattle.markdown_lines.specs.LinksOf.{defined_of}
use Rattle.markdown_lines.specs.Said.{said}
use Rattle.markdown_lines.specs.Shown.{shown}
use Rattle.markdown_lines.specs.Tables.{cells}
use Rattle.markdown_lines.proofs.LinkLemmas.{addresses_next, addresses_done}
use Rattle.markdown_lines.proofs.NumberLemmas.{numbers_next, numbers_done}
use Rattle.markdown_lines.proofs.TableLemmas.{cells_next, ranges_next, lines_kept, row_done}
use Rattle.markdown_lines.proofs.lines.Lines.push_table_row.Goals as goal

pub loop-more-preserved : goal.loop-more-preserved
loop-more-preserved c =
    let all = said c.loop-more.self.runs in
    let added = cell_runs (defined_of c.args.definitions.now).labels c.args.bold (cell_text c.loop-more.rest.now) in
    let whole = said c.push_first_cell.new.self.runs in
    let held = c.loop-more.invariant in
    let adds = c.in_ok-range.ensures in
    record {
      same = lines_kept all added whole c.loop-more.self.lines.items c.push_first_cell.new.self.lines.items c.loop-more.self.within adds.runs (ap (λ v. v.items) adds.lines) ∙ held.same;
      within = ranges_next all added whole c.loop-more.ranges.items c.push.new.self.items c.in_ok-range.range held.within adds.runs adds.range c.in_ok-push.ensures.items;
      so_far = cells_next (defined_of c.args.definitions.now).labels c.args.bold all added whole c.loop-more.ranges.items c.push.new.self.items c.in_ok-range.range c.loop-more.rest.now c.after_cell-rest.result.now c.loop-more.more (omega arith)
          held.within adds.runs adds.range c.in_ok-push.ensures.items refl c.after_cell-rest.ensures ∙ held.so_far;
      leads = addresses_next (defined_of c.args.definitions.now) (map string_bytes c.loop-more.addresses.items) (map string_bytes c.push_first_cell.new.addresses.items) c.loop-more.rest.now c.after_cell-rest.result.now c.loop-more.more (omega arith)
          adds.addresses c.after_cell-rest.ensures ∙ held.leads;
      numbers = numbers_next string_bytes (defined_of c.args.definitions.now) c.args.bold c.args.before c.loop-more.addresses.items c.push_first_cell.new.addresses.items c.loop-more.numbers.items c.push_first_cell.new.numbers.items c.loop-more.rest.now c.after_cell-rest.result.now c.loop-more.more (omega arith)
          adds.addresses adds.numbers c.after_cell-rest.ensures ∙ held.numbers;
    }

pub returns-clause-row : goal.returns-clause-row
returns-clause-row c =
    row_done (defined_of c.args.definitions.now).labels c.args.bold (shown c.loop-more.self) (shown c.add_line.new.self) (shown c.args.self.now) (map (cell_said (said c.loop-more.self.runs)) c.loop-more.ranges.items)
    (cells (defined_of c.args.definitions.now).labels c.args.bold c.args.columns c.args.row.now) c.loop-more.rest.now c.loop-more.more (omega arith) c.in_ok-add_line.ensures c.loop-more.invariant.same c.loop-more.invariant.so_far

pub returns-clause-addresses : goal.returns-clause-addresses
returns-clause-addresses c = addresses_done (defined_of c.args.definitions.now) (map string_bytes c.loop-more.addresses.items) _ c.loop-more.rest.now c.loop-more.more (omega arith) c.loop-more.invariant.leads

pub returns-clause-numbers : goal.returns-clause-numbers
returns-clause-numbers c = numbers_done (defined_of c.args.definitions.now) c.args.bold (length c.loop-more.addresses.items + c.args.before) c.loop-more.numbers.items _ c.loop-more.rest.now c.loop-more.more (omega arith) c.loop-more.invariant.numbers
